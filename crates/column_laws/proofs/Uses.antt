-- What is so of all rows that stand in a flow, and of the uses of their fills, is so of all uses of the flow's columns.
use Rattle.std.proofs.Common.{◌≡◌, ℕ, zero, suc, ◌+◌, ◌-◌, ◌==◌, ◌≤◌, Bool, true, false, cond, List, [], ◌∷◌, ◌++◌, length}
use Rattle.std.proofs.Common.{get_or, refl, subst, arith, Option, Some, None}
use Rattle.std.specs.Prelude.{nat_lt, All}
use Rattle.std.specs.List.{flat_map, AllByRecursion as Each}
use Rattle.flow_data.specs.declared.data.Flow.{Flow}
use Rattle.flow_data.specs.declared.data.FlowsData.{FlowsData}
use Rattle.flow_data.specs.declared.data.Item.{Item}
use Rattle.flow_data.specs.declared.data.Item.TheVariants.{Atom, Row}
use Rattle.flow_data.specs.Flows.{row_of, flow_in, item_of, seam_of, no_item, row_in, rows_in}
use Rattle.flow_data.specs.Soundness.{NestsAtMost}
use Rattle.flow_list.specs.Strip.{Strip, lay_all}
use Rattle.flow_list.specs.Tokens.{Token, row_start, item_number, within, is_end}
use Rattle.flow_list.specs.Column.{Column, Inner, Step, cut, longer, steps, strip_behind, steps_from, start_strip, row_from}
use Rattle.flow_list.specs.Column.{is_forced, room, fills, fill_in_room, inner_uses, row_list, rows_among, column, column_up_to}
use Rattle.flow_list.specs.Column.{avoids_at}
use Rattle.flow_list.specs.Rows.{columns, columns_by, up_to, fails, fill_in, rows_to, all_rows, most_columns, left_in}
use Rattle.flow_list.specs.Ranges.{Range, judged}
use Rattle.flow_list.specs.RowHeights.{size_of}
use Rattle.flow_list.specs.Certificate.{Use, uses_of, range_uses, size_ranges, size_uses}
use Rattle.flow_list.proofs.PlaceBounds.{Each-append}

-- what is so of all rows in a flow is so of the row that an item is
pub rows-at : (P : ℕ → Type 0) (items : List Item) → All P (flat_map row_in items) → (k r : ℕ) → get_or items k no_item ≡ Row r →
    P r
rows-at P [] all zero r is = cc
rows-at P [] all (suc k) r is = cc
rows-at P (Atom height kind ∷ items) all zero r is = cc
rows-at P (Row s ∷ items) all zero r is = let same : s ≡ r = cc in let here = all 0 s (omega arith) in subst P same here
rows-at P (Atom height kind ∷ items) all (suc k) r is = rows-at P items all k r is
rows-at P (Row s ∷ items) all (suc k) r is = rows-at P items (λ j e lt. all (suc j) e (omega arith)) k r is

module _ (P : ℕ → Type 0) where
  -- this is so of the row of each of these uses
  abbrev pub UsesAre : List Use → Type 0
  UsesAre us = Each (λ (u : Use). P u.0) us

  abbrev pub HoldsRows : Flow → Type 0
  HoldsRows f = (k r : ℕ) → item_of f k ≡ Row r → P r

  -- what the rows that stand in a flow use
  abbrev pub FillsUse : Inner → Type 0
  FillsUse inner = (r : ℕ) (q : Token) (a : ℕ) → P r → UsesAre (inner.fill r q a).uses

  both : (xs ys : List Use) → UsesAre xs → UsesAre ys → UsesAre (xs ++ ys)
  both xs ys a b = Each-append (λ (u : Use). P u.0) xs ys a b

  front : (xs ys : List Use) → UsesAre (xs ++ ys) → UsesAre xs
  front [] ys a = tt
  front (x ∷ xs) ys a = (a.0, front xs ys a.1)

  back : (xs ys : List Use) → UsesAre (xs ++ ys) → UsesAre ys
  back [] ys a = a
  back (x ∷ xs) ys a = back xs ys a.1

  row-use : (q : Token) (item : Item) → ((r : ℕ) → item ≡ Row r → P r) → UsesAre (row_list (row_from item q))
  row-use q (Atom h kind) each = tt
  row-use q (Row r) each = (each r refl, tt)

  module _ (inner : Inner) (d : FlowsData) (f : Flow) (holds : HoldsRows f) where
    steps-use : (s : Strip) (k : ℕ) (q : Token) (m : ℕ) → UsesAre (rows_among (steps inner d f s k q m))
    unfolding steps
    steps-use s k q zero = tt
    steps-use s k q (suc m) =
        both (row_list (row_from (item_of f k) q)) _ (row-use q (item_of f k) (holds k))
        (go (is_forced (seam_of f (k + 1)).level)
        (steps-use (lay_all (strip_behind inner f s k q) (seam_of f (k + 1)).head) (k + 1) row_start m))
      where
        more : List Step
        more = steps inner d f (lay_all (strip_behind inner f s k q) (seam_of f (k + 1)).head) (k + 1) row_start m

        go : (x : Bool) → UsesAre (rows_among more) →
            UsesAre (rows_among (elim x as (λ _. List Step) [ true ↦ [] | false ↦ more ]))
        go true a = tt
        go false a = a

  abbrev with_stop : List Step → Option Step → List Step
  with_stop before None = before
  with_stop before (Some s) = before ++ s ∷ []

  cut-use : (h : ℕ) (ss : List Step) → UsesAre (rows_among ss) →
      UsesAre (rows_among (with_stop (cut h ss).before (cut h ss).stop))
  cut-use h [] a = tt
  cut-use h (x ∷ ss) a = go (nat_lt h x.need) (front (row_list x.row) (rows_among ss) a)
      (cut-use h ss (back (row_list x.row) (rows_among ss) a))
    where
      later : (o : Option Step) → UsesAre (row_list x.row) → UsesAre (rows_among (with_stop (cut h ss).before o)) →
          UsesAre (rows_among (with_stop (x ∷ (cut h ss).before) o))
      later None one more = both (row_list x.row) _ one more
      later (Some s) one more = both (row_list x.row) _ one more

      go : (c : Bool) → UsesAre (row_list x.row) → UsesAre (rows_among (with_stop (cut h ss).before (cut h ss).stop)) →
          UsesAre (rows_among (with_stop (cond c (record { before = []; stop = Some x }) (longer x (cut h ss))).before
          (cond c (record { before = []; stop = Some x }) (longer x (cut h ss))).stop))
      go true one more = both (row_list x.row) [] one tt
      go false one more = later (cut h ss).stop one more

  stop-use : (before : List Step) (s : Step) → UsesAre (rows_among (before ++ s ∷ [])) → UsesAre (row_list s.row)
  stop-use [] s a = front (row_list s.row) [] a
  stop-use (x ∷ xs) s a = stop-use xs s (back (row_list x.row) (rows_among (xs ++ s ∷ [])) a)

  pub column-use : (inner : Inner) → FillsUse inner → (d : FlowsData) (f : Flow) → HoldsRows f → (t : Token) (h : ℕ) →
      UsesAre (column inner d f t h).uses
  unfolding column
  column-use inner law d f holds t h =
      go (cut h (steps_from inner d f t)).before (cut h (steps_from inner d f t)).stop
      (cut-use h (steps_from inner d f t) (steps-use inner d f holds (start_strip d f t) (item_number t) (within t)
      (length f.items - item_number t)))
    where
      inside : (x : Bool) (s : Step) (o : Option Use) → UsesAre (row_list o) →
          UsesAre (inner_uses x (fill_in_room inner o (room s h)))
      inside x s None a = tt
      inside true s (Some row) a = law row.0 row.1 (room s h) a.0
      inside false s (Some row) a = tt

      go : (before : List Step) (o : Option Step) → UsesAre (rows_among (with_stop before o)) →
          UsesAre (column_up_to inner (avoids_at d f) h before o).uses
      go before None a = a
      go before (Some s) a = both (rows_among (before ++ s ∷ [])) _ a (inside (fills before s h) s s.row (stop-use before s a))

  pub columns-use : (make : Token → Column) (f : Flow) → ((t : Token) → UsesAre (make t).uses) → (m : ℕ) (t : Token) →
      UsesAre (uses_of (columns_by make f m t))
  unfolding columns_by
  columns-use make f each zero t = tt
  columns-use make f each (suc m) t = go (is_end f t) (columns-use make f each m (make t).end)
    where
      go : (x : Bool) → UsesAre (uses_of (columns_by make f m (make t).end)) →
          UsesAre (uses_of (elim x as (λ _. List Column) [ true ↦ [] | false ↦ let c = make t in c ∷ columns_by make f m c.end ]))
      go true a = tt
      go false a = both (make t).uses _ (each t) a

  pub first-use : (stops : Column → Bool) (cs : List Column) → UsesAre (uses_of cs) → UsesAre (uses_of (up_to stops cs))
  first-use stops [] a = tt
  first-use stops (c ∷ cs) a = both c.uses _ (front c.uses (uses_of cs) a)
      (go (stops c) (first-use stops cs (back c.uses (uses_of cs) a)))
    where
      go : (x : Bool) → UsesAre (uses_of (up_to stops cs)) → UsesAre (uses_of (cond x [] (up_to stops cs)))
      go true k = tt
      go false k = k

  -- ---- what a size uses

  module _ (d : FlowsData) (law : FillsUse (all_rows d)) (r : ℕ) (holds : HoldsRows (flow_in d r)) where
    made-use : (m : ℕ) (q : Token) (h : ℕ) → UsesAre (uses_of (columns (all_rows d) d (flow_in d r) m q h))
    made-use m q h = columns-use (λ t. column (all_rows d) d (flow_in d r) t h) (flow_in d r)
        (λ t. column-use (all_rows d) law d (flow_in d r) holds t h) m q

    judged-use : (q : Token) (h : ℕ) → UsesAre (uses_of (judged (all_rows d) d r q h))
    unfolding judged
    judged-use q h = first-use fails (columns (all_rows d) d (flow_in d r) (most_columns (row_of d r).n (flow_in d r) q) q h)
        (made-use (most_columns (row_of d r).n (flow_in d r) q) q h)

    ranges-use : (q : Token) (xs : List Range) → UsesAre (flat_map (range_uses d r q) xs)
    ranges-use q [] = tt
    ranges-use q (x ∷ xs) = both (range_uses d r q x) _ (go (length x.lines == 0) (judged-use q x.low)) (ranges-use q xs)
      where
        go : (b : Bool) → UsesAre (uses_of (judged (all_rows d) d r q x.low)) →
            UsesAre (cond b [] (uses_of (judged (all_rows d) d r q x.low)))
        go true a = tt
        go false a = a

    pub size-use : (q : Token) → UsesAre (size_uses d (r, q))
    unfolding size_uses
    size-use q = both (flat_map (range_uses d r q) (size_ranges d r q)) _ (ranges-use q (size_ranges d r q))
        (made-use (left_in (all_rows d) (flow_in d r) q) q (size_of d r q))

-- ---- by how many rows stand one inside another

each-with : (P Q : ℕ → Type 0) (us : List Use) → ((r : ℕ) → P r → Q r) → UsesAre P us → UsesAre Q us
each-with P Q [] make all = tt
each-with P Q (u ∷ us) make all = (make u.0 all.0, each-with P Q us make all.1)

pub nests-to : (d : FlowsData) (n m r : ℕ) → n ≤ m → NestsAtMost d n r → NestsAtMost d m r
nests-to d zero m r le nests = absurd nests
nests-to d (suc n) zero r le nests = absurd (omega arith)
nests-to d (suc n) (suc m) r le nests = λ k e lt. nests-to d n m (get_or (rows_in (flow_in d r)) k e) (omega arith) (nests k e lt)

pub fills-nest : (d : FlowsData) (m n : ℕ) → FillsUse (NestsAtMost d n) (rows_to d m)
unfolding rows_to fill_in
fills-nest d zero n r q a nests = tt
fills-nest d (suc m) zero r q a nests = absurd nests
fills-nest d (suc m) (suc n) r q a nests =
    each-with (NestsAtMost d n) (NestsAtMost d (suc n)) (fill_in (rows_to d m) d r q a).uses
    (λ s nests. nests-to d n (suc n) s (omega arith) nests)
    (columns-use (NestsAtMost d n) (λ t. column (rows_to d m) d (flow_in d r) t a) (flow_in d r)
    (λ t. column-use (NestsAtMost d n) (rows_to d m) (fills-nest d m n) d (flow_in d r)
    (rows-at (NestsAtMost d n) (flow_in d r).items nests) t a) (row_of d r).n q)

-- the sizes that a size uses nest less deep
pub size-nests : (d : FlowsData) (n : ℕ) (u : Use) → NestsAtMost d (suc n) u.0 → UsesAre (NestsAtMost d n) (size_uses d u)
unfolding all_rows
size-nests d n u nests = size-use (NestsAtMost d n) d (fills-nest d (length d.rows) n) u.0
    (rows-at (NestsAtMost d n) (flow_in d u.0).items nests) u.1
