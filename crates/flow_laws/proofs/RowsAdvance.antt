-- Columns advance in rows, and in rows within rows: by how many of them stand one inside another.
use Rattle.std.proofs.Common.{◌≡◌, ℕ, zero, suc, ◌-◌, ◌<◌, ◌≤◌, true, false, List, [], ◌∷◌, ◌++◌, length, drop, Option, Some}
use Rattle.std.proofs.Common.{None, refl, sym, subst, ◌∙◌, ap, arith, append_assoc, ◌⊎◌, inl, inr, length-append}
use Rattle.std.specs.Prelude.{All}
use Rattle.std.specs.List.{flat_map}
use Rattle.std.proofs.lemmas.Bool.Decides.{nat_tests}
use Rattle.std.proofs.lemmas.List.{append-nil, drop_all}
use Rattle.std.proofs.Math.Seq.{take-append_seam}
use Rattle.flow_list.proofs.Fitting.{columns_by-step, columns_by-past}
use Rattle.flow_list.specs.Data.{Flow, FlowsData, Item, Atom, Row}
use Rattle.flow_data.specs.Flows.{row_of, flow_in, row_in, flow_of, no_row}
use Rattle.flow_list.specs.Tokens.{Token, item_number, within, is_end, IsPlaceBefore}
use Rattle.flow_list.specs.Column.{Column, Filled, Inner, column}
use Rattle.flow_list.specs.Rows.{columns, columns_by, end_of, left_in, items_left, fill_in, filled_by, rows_to, all_rows}
use Rattle.flow_list.specs.RowHeights.{column_within}
use Rattle.flow_data.specs.Soundness.{IsSound, NestsAtMost}
use Rattle.flow_laws.specs.Progress.{AtomAt, Contents, contents_to, atoms_from, EndsWith, atoms_between, held_by, first_columns}
use Rattle.flow_laws.specs.Progress.{IsLater, ColumnsAdvance}
use Rattle.flow_laws.proofs.Advance.{ends-trans, item_left-some, FillMoves, RowMoves, ItemsMove, Later, column-later}
use Rattle.flow_laws.proofs.Advance.{endless-later}
use Rattle.flow_laws.proofs.DepthSame.{sound-alike}
use Rattle.flow_laws.proofs.Places.{in-items, before-end, at-end, some-left, IsReached}
use Rattle.flow_laws.proofs.SoundRows.{rows-of-data, some-column, nests-by-number}

-- no columns at all
pub by-zero : (make : Token → Column) (f : Flow) (t : Token) → columns_by make f zero t ≡ []
unfolding columns_by
by-zero make f t = refl

-- ---- columns one after another, each of which ends later than it begins

module _ (d : FlowsData) (x : Inner) (c : Contents) (r : ℕ) (f : Flow) (make : Token → Column)
    (made : (t : Token) → IsPlaceBefore d f t → Later d x c r f t (make t).end) where
  later-trans : (t u v : Token) → Later d x c r f t u → Later d x c r f u v → Later d x c r f t v
  later-trans t u v a b = record {
    place = b.place;
    fewer = let m = a.fewer in let n = b.fewer in omega arith;
    rest = ends-trans _ _ _ b.rest a.rest;
  }

  -- the first column, and then as many as the rest says
  later-cons : (n : ℕ) (t : Token) → IsPlaceBefore d f t
      → (IsPlaceBefore d f (make t).end → Later d x c r f t (end_of (make t).end (columns_by make f n (make t).end))) →
      Later d x c r f t (end_of t (columns_by make f (suc n) t))
  later-cons n t place rest = rw (columns_by-step make f n t (before-end d f t place)) (go (made t place) (made t place).place)
    where
      go : Later d x c r f t (make t).end → (((make t).end ≡ length f.items ∷ []) ⊎ IsPlaceBefore d f (make t).end)
          → Later d x c r f t (end_of (make t).end (columns_by make f n (make t).end))
      go later (inl e) = rw (columns_by-past make f n (make t).end (at-end f (make t).end e)) later
      go later (inr p) = rest p

  pub columns-later : (n : ℕ) (t : Token) → IsPlaceBefore d f t → Later d x c r f t (end_of t (columns_by make f (suc n) t))
  columns-later zero t place = later-cons zero t place (λ p. rw (by-zero make f (make t).end) (made t place))
  columns-later (suc n) t place =
      later-cons (suc n) t place (λ p. later-trans t (make t).end _ (made t place) (columns-later n (make t).end p))

  -- as many columns as there are items left reach the end
  left-some : (t : Token) → IsPlaceBefore d f t → 0 < left_in x f t
  left-some t place = some (drop (item_number t) f.items) (within t) (some-left (item_number t) f.items (in-items d f t place))
    where
      some : (items : List Item) (q : Token) → 0 < length items → 0 < items_left x q items
      some [] q lt = absurd (omega arith)
      some (item ∷ items) q lt = let l = item_left-some x item q in omega arith

  pub columns-end : (n : ℕ) (t : Token) → IsPlaceBefore d f t → left_in x f t ≤ n
      → is_end f (end_of t (columns_by make f n t)) ≡ true
  columns-end zero t place le = let some = left-some t place in absurd (omega arith)
  columns-end (suc n) t place le =
      rw (columns_by-step make f n t (before-end d f t place))
      (go (λ p l. columns-end n (make t).end p l) (made t place) (made t place).place)
    where
      go : (IsPlaceBefore d f (make t).end → left_in x f (make t).end ≤ n
          → is_end f (end_of (make t).end (columns_by make f n (make t).end)) ≡ true) →
          Later d x c r f t (make t).end → (((make t).end ≡ length f.items ∷ []) ⊎ IsPlaceBefore d f (make t).end)
          → is_end f (end_of (make t).end (columns_by make f n (make t).end)) ≡ true
      go again later (inl e) = rw (columns_by-past make f n (make t).end (at-end f (make t).end e)) (at-end f (make t).end e)
      go again later (inr p) = again p (let less = later.fewer in omega arith)

-- ---- rows within rows

items-move : (d : FlowsData) (x : Inner) (c : Contents) (P : ℕ → Type 0) → ((r : ℕ) → P r → RowMoves d x c r)
    → (items : List Item) → All P (flat_map row_in items) → ItemsMove d x c items
items-move d x c P moves [] all = tt
items-move d x c P moves (Atom height kind ∷ items) all = (tt, items-move d x c P moves items all)
items-move d x c P moves (Row r ∷ items) all =
    (moves r (all 0 r (omega arith)), items-move d x c P moves items (λ k e lt. all (suc k) e (omega arith)))

-- what row r makes of a height, where the rows within it move
filled-moves : (d : FlowsData) (m r k : ℕ) (q : Token) (a : ℕ) → ItemsMove d (rows_to d m) (contents_to d m) (flow_in d r).items
    → IsPlaceBefore d (flow_in d r) q →
    FillMoves d (rows_to d (suc m)) (contents_to d (suc m)) r q
    (filled_by (flow_in d r) q (columns (rows_to d m) d (flow_in d r) (suc k) q a))
unfolding rows_to contents_to
filled-moves d m r k q a moves place =
    let later = columns-later d (rows_to d m) (contents_to d m) r (flow_in d r) (λ t. column (rows_to d m) d (flow_in d r) t a)
    (λ t here. column-later d (rows_to d m) (contents_to d m) r (flow_in d r) moves t here a) k q place in
    record {
      place = λ e. which _ e later.place;
      fewer = λ e. later.fewer;
      rest = λ e. later.rest;
    }
  where
    which : (u : Token) → is_end (flow_in d r) u ≡ false
        → ((u ≡ length (flow_in d r).items ∷ []) ⊎ IsPlaceBefore d (flow_in d r) u) → IsPlaceBefore d (flow_in d r) u
    which u e (inl x) = let y = at-end (flow_in d r) u x in cc
    which u e (inr x) = x

fill-moves : (d : FlowsData) (m r : ℕ) (q : Token) (a : ℕ) → 0 < (row_of d r).n →
    ItemsMove d (rows_to d m) (contents_to d m) (flow_in d r).items → IsReached d (flow_in d r) q →
    FillMoves d (rows_to d (suc m)) (contents_to d (suc m)) r q (fill_in (rows_to d m) d r q a)
unfolding fill_in
fill-moves d m r q a some moves (inl e) =
    let stays : is_end (flow_in d r) (end_of q (columns (rows_to d m) d (flow_in d r) (row_of d r).n q a)) ≡ true =
    rw (columns_by-past (λ t. column (rows_to d m) d (flow_in d r) t a) (flow_in d r) (row_of d r).n q e) e in
    record { place = λ no. cc; fewer = λ no. cc; rest = λ no. cc }
fill-moves d m r q a some moves (inr place) =
    let n : suc ((row_of d r).n - 1) ≡ (row_of d r).n = omega arith in
    let P : ℕ → Type 0 = λ n. FillMoves d (rows_to d (suc m)) (contents_to d (suc m)) r q
    (filled_by (flow_in d r) q (columns (rows_to d m) d (flow_in d r) n q a)) in
    subst P n (filled-moves d m r ((row_of d r).n - 1) q a moves place)

row-moves : (d : FlowsData) → IsSound d → (n r m : ℕ) → NestsAtMost d n r → n ≤ m → r < length d.rows →
    RowMoves d (rows_to d m) (contents_to d m) r
unfolding rows_to
row-moves d sound zero r m nests le lt = absurd nests
row-moves d sound (suc n) r zero nests le lt = absurd (omega arith)
row-moves d sound (suc n) r (suc m) nests le lt =
    let inner = rows-of-data d sound (row_of d r).flow (sound.rows r no_row lt).flow in
    let moves = items-move d (rows_to d m) (contents_to d m) (λ s. NestsAtMost d n s × (s < length d.rows))
    (λ s both. row-moves d sound n s m both.0 (omega arith) both.1) (flow_in d r).items
    (λ k e in_rows. (nests k e in_rows, inner k e in_rows)) in
    record { fills = λ q a at. fill-moves d m r q a (some-column d sound r lt) moves at }

-- so do the rows in any flow of the data
pub flow-moves : (d : FlowsData) → IsSound d → (f : ℕ) → f < length d.flows →
    ItemsMove d (rows_to d (length d.rows)) (contents_to d (length d.rows)) (flow_of d f).items
flow-moves d sound f lt =
    items-move d (rows_to d (length d.rows)) (contents_to d (length d.rows)) (λ s. s < length d.rows)
    (λ s known. row-moves d sound (length d.rows - s) s (length d.rows)
    (nests-by-number d sound (length d.rows - s) s known (omega arith)) (omega arith) known) (flow_of d f).items
    (rows-of-data d sound f lt)

-- a column of a flow, at a height or without end, ends later than it begins, by what row r counts of the flow's own atoms
pub flow-advances : (d : FlowsData) → IsSound d → (f : ℕ) → f < length d.flows → (r : ℕ) (h : Option ℕ) (t : Token) →
    IsPlaceBefore d (flow_of d f) t →
    Later d (rows_to d (length d.rows)) (contents_to d (length d.rows)) r (flow_of d f) t (column_within d (flow_of d f) h t).end
unfolding all_rows
flow-advances d sound f lt r None t place = endless-later d (rows_to d (length d.rows)) (contents_to d (length d.rows)) r
    (flow_of d f) (flow-moves d sound f lt) t place
flow-advances d sound f lt r (Some h) t place = column-later d (rows_to d (length d.rows)) (contents_to d (length d.rows)) r
    (flow_of d f) (flow-moves d sound f lt) t place h

-- ---- the law

module _ (d : FlowsData) (sound : IsSound d) (r : ℕ) (lt : r < length d.rows) where
  later-is : (t u : Token) → Later d (rows_to d (length d.rows)) (contents_to d (length d.rows)) r (flow_in d r) t u
      → IsLater d r t u
  unfolding all_rows atoms_from contents_to
  later-is t u later = record { place = later.place; fewer = later.fewer; rest = later.rest }

  all-move : (h : Option ℕ) (t : Token) → IsPlaceBefore d (flow_in d r) t
      → Later d (rows_to d (length d.rows)) (contents_to d (length d.rows)) r (flow_in d r) t
      (column_within d (flow_in d r) h t).end
  all-move h t place = flow-advances d sound (row_of d r).flow (sound.rows r no_row lt).flow r h t place

  pub column-is-later : (t : Token) (h : Option ℕ) → IsPlaceBefore d (flow_in d r) t
      → IsLater d r t (column_within d (flow_in d r) h t).end
  column-is-later t h place = later-is t _ (all-move h t place)

  filled-is-later : (n : ℕ) → 0 < n → (t : Token) (h : ℕ) → IsPlaceBefore d (flow_in d r) t
      → IsLater d r t (end_of t (first_columns d r n t (Some h)))
  filled-is-later zero some t h place = absurd (omega arith)
  filled-is-later (suc k) some t h place =
      later-is t _ (columns-later d (rows_to d (length d.rows)) (contents_to d (length d.rows)) r (flow_in d r)
      (column_within d (flow_in d r) (Some h)) (all-move (Some h)) k t place)

  pub fill-is-later : (t : Token) (h : ℕ) → IsPlaceBefore d (flow_in d r) t → IsLater d r t ((all_rows d).fill r t h).end
  unfolding all_rows rows_to fill_in
  fill-is-later t h place =
      let P : Filled → Type 0 = λ filled. IsLater d r t filled.end in
      subst P (sym ((sound-alike d sound r (length d.rows) (suc (length d.rows)) lt (omega arith) (omega arith)).fill t h))
      (filled-is-later (row_of d r).n (some-column d sound r lt) t h place)

  pub columns-reach : (n : ℕ) (t : Token) (h : Option ℕ) → IsPlaceBefore d (flow_in d r) t →
      left_in (all_rows d) (flow_in d r) t ≤ n → is_end (flow_in d r) (end_of t (first_columns d r n t h)) ≡ true
  unfolding all_rows
  columns-reach n t h place le = columns-end d (rows_to d (length d.rows)) (contents_to d (length d.rows)) r (flow_in d r)
      (column_within d (flow_in d r) h) (all-move h) n t place le

  -- ---- what columns hold

  none-behind : (t : Token) → is_end (flow_in d r) t ≡ true → atoms_from d r t ≡ []
  unfolding atoms_from contents_to
  none-behind t e = rw (drop_all (item_number t) (flow_in d r).items (grind (arith, nat_tests))) refl

  between-is : (t u : Token) (held : List AtomAt) → atoms_from d r t ≡ held ++ atoms_from d r u → atoms_between d r t u ≡ held
  between-is t u held e =
      let n : length (atoms_from d r t) - length (atoms_from d r u) ≡ length held =
      omega (arith, ap length e, length-append held (atoms_from d r u)) in
      rw (n, e) (take-append_seam held (atoms_from d r u))

  -- these columns from t on hold each atom before the place where they end once
  abbrev HoldOnce : Token → List Column → Type 0
  HoldOnce t cs = held_by d r t cs ++ atoms_from d r (end_of t cs) ≡ atoms_from d r t

  one-more : (t : Token) (c : Column) (cs : List Column) → EndsWith (atoms_from d r c.end) (atoms_from d r t) → HoldOnce c.end cs
      → HoldOnce t (c ∷ cs)
  one-more t c cs ends rest =
      append_assoc (atoms_between d r t c.end) (held_by d r c.end cs) (atoms_from d r (end_of c.end cs))
      ∙ ap (λ xs. atoms_between d r t c.end ++ xs) rest
      ∙ ap (λ xs. xs ++ atoms_from d r c.end) (between-is t c.end ends.0 ends.1) ∙ sym ends.1

  held-once : (n : ℕ) (t : Token) (h : Option ℕ) → IsPlaceBefore d (flow_in d r) t → HoldOnce t (first_columns d r n t h)
  held-once zero t h place = let P : List Column → Type 0 = λ cs. HoldOnce t cs
      in subst P (sym (by-zero (column_within d (flow_in d r) h) (flow_in d r) t)) refl
  held-once (suc n) t h place =
      let P : List Column → Type 0 = λ cs. HoldOnce t cs in
      let later = column-is-later t h place in
      let u = (column_within d (flow_in d r) h t).end in
      subst P (sym (columns_by-step (column_within d (flow_in d r) h) (flow_in d r) n t (before-end d (flow_in d r) t place)))
      (one-more t (column_within d (flow_in d r) h t) (first_columns d r n u h) later.rest
      (go u (λ p. held-once n u h p) later.place))
    where
      go : (u : Token) → (IsPlaceBefore d (flow_in d r) u → HoldOnce u (first_columns d r n u h))
          → ((u ≡ length (flow_in d r).items ∷ []) ⊎ IsPlaceBefore d (flow_in d r) u) → HoldOnce u (first_columns d r n u h)
      go u again (inl e) = let P : List Column → Type 0 = λ cs. HoldOnce u cs
          in subst P (sym (columns_by-past (column_within d (flow_in d r) h) (flow_in d r) n u (at-end (flow_in d r) u e))) refl
      go u again (inr p) = again p

  held-all : (t : Token) (cs : List Column) → HoldOnce t cs → is_end (flow_in d r) (end_of t cs) ≡ true
      → held_by d r t cs ≡ atoms_from d r t
  held-all t cs once ends = sym (append-nil (held_by d r t cs))
      ∙ ap (λ xs. held_by d r t cs ++ xs) (sym (none-behind (end_of t cs) ends)) ∙ once

pub columns-advance : (d : FlowsData) → IsSound d → (r : ℕ) → r < length d.rows → ColumnsAdvance d r
columns-advance d sound r lt = record {
  column_advances = column-is-later d sound r lt;
  fill_advances = fill-is-later d sound r lt;
  columns_end = columns-reach d sound r lt;
  each_once = held-once d sound r lt;
  none_behind = none-behind d sound r lt;
  all_held = λ n t h place. held-all d sound r lt t (first_columns d r n t h) (held-once d sound r lt n t h place);
}
