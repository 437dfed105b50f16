-- Breaks stay over a range in the columns of rows, and of rows within rows.
use Rattle.std.proofs.Common.{◌≡◌, ℕ, zero, suc, ◌≤◌, max, Bool, true, false, not, ◌&&◌, ◌||◌, List, [], ◌∷◌, refl, ap}
use Rattle.std.specs.Prelude.{fold, nat_lt}
use Rattle.std.specs.List.{list_any, flat_map}
use Rattle.flow_list.specs.Data.{Flow, FlowsData}
use Rattle.flow_data.specs.Flows.{row_of, flow_in}
use Rattle.flow_list.specs.Tokens.{Token, is_end}
use Rattle.flow_list.specs.Column.{Column, Inner, column, steps_from, avoids_at}
use Rattle.flow_list.specs.Rows.{columns, columns_by, end_of, fits, fails, most_columns, up_to, filled_by, fill_in, rows_to}
use Rattle.flow_list.specs.Ranges.{judged, bounds_of}
use Rattle.flow_laws.specs.Constant.{IsBelowEach, ColumnStays, ColumnsStay, FillStays, FillsStay, BreaksAreConstant}
use Rattle.flow_laws.proofs.BoundsAbove.{column-above, rows_to-above}
use Rattle.flow_laws.proofs.StopStays.{over-stays, IsBelowEach-append}

pub column-stays : (inner : Inner) (law : FillsStay inner) (d : FlowsData) (f : Flow) (t : Token) (lo h : ℕ) → lo ≤ h
    → IsBelowEach h (column inner d f t lo).bounds →
    ColumnStays (column inner d f t lo) (column inner d f t h)
unfolding column
column-stays inner law d f t lo h le b = over-stays inner law (avoids_at d f) lo h (steps_from inner d f t) le b

-- ---- columns up to the first that a test stops

module _ (stops : Column → Bool) (kept : (a b : Column) → ColumnStays a b → stops b ≡ stops a)
    (fine : (a : Column) → stops a ≡ false → a.overflow ≡ false) where
  -- these columns and those stay up to the first that the test stops
  pub data StayUpTo : List Column → List Column → Type 0 where
    none : StayUpTo [] []
    ends : {a b : Column} {cs ds : List Column} → stops a ≡ true → ColumnStays a b → StayUpTo (a ∷ cs) (b ∷ ds)
    more : {a b : Column} {cs ds : List Column} → stops a ≡ false → ColumnStays a b → StayUpTo cs ds → StayUpTo (a ∷ cs) (b ∷ ds)

  first-below : (h : ℕ) (c : Column) (cs : List Column) → IsBelowEach h (bounds_of (up_to stops (c ∷ cs)))
      → IsBelowEach h c.bounds
  first-below h c cs b = (IsBelowEach-append h c.bounds _ b).0

  rest-below : (h : ℕ) (c : Column) (cs : List Column) → stops c ≡ false → IsBelowEach h (bounds_of (up_to stops (c ∷ cs)))
      → IsBelowEach h (bounds_of (up_to stops cs))
  rest-below h c cs n b = rw n at ((IsBelowEach-append h c.bounds _ b).1)

  pub cons-stay : (c c' : Column) (cs cs' : List Column) → ColumnStays c c' → (o : Bool) → stops c ≡ o →
      (o ≡ false → StayUpTo cs cs') → StayUpTo (c ∷ cs) (c' ∷ cs')
  cons-stay c c' cs cs' e true k rest = ends k e
  cons-stay c c' cs cs' e false k rest = more k e (rest refl)

  pub columns-stay : (inner : Inner) (law : FillsStay inner) (d : FlowsData) (f : Flow) (n : ℕ) (t : Token) (lo h : ℕ) → lo ≤ h →
      IsBelowEach h (bounds_of (up_to stops (columns inner d f n t lo))) →
      StayUpTo (columns inner d f n t lo) (columns inner d f n t h)
  unfolding columns_by
  columns-stay inner law d f zero t lo h le b = none
  columns-stay inner law d f (suc n) t lo h le b = go (λ u k. columns-stay inner law d f n u lo h le k) (is_end f t) b
    where
      here : ℕ → List Column
      here x = let c = column inner d f t x in c ∷ columns inner d f n c.end x

      go : ((u : Token) → IsBelowEach h (bounds_of (up_to stops (columns inner d f n u lo)))
          → StayUpTo (columns inner d f n u lo) (columns inner d f n u h)) →
          (x : Bool) → IsBelowEach h (bounds_of (up_to stops (elim x [ true ↦ [] | false ↦ here lo ])))
          → StayUpTo (elim x [ true ↦ [] | false ↦ here lo ]) (elim x [ true ↦ [] | false ↦ here h ])
      go again true b = none
      go again false b =
          let e = column-stays inner law d f t lo h le
          (first-below h (column inner d f t lo) (columns inner d f n (column inner d f t lo).end lo) b) in
          cons-stay (column inner d f t lo) (column inner d f t h) _ _ e (stops (column inner d f t lo)) refl
          (λ k. rw (e.end (fine _ k)) (again (column inner d f t lo).end (rest-below h (column inner d f t lo) _ k b)))

  pub lines-stay : {cs ds : List Column} → StayUpTo cs ds →
      flat_map (λ (c : Column). c.lines) (up_to stops ds) ≡ flat_map (λ (c : Column). c.lines) (up_to stops cs)
  lines-stay none = refl
  lines-stay (ends k e) = rw (kept _ _ e, k, e.lines) refl
  lines-stay (more k e rest) = rw (kept _ _ e, k, e.lines, lines-stay rest) refl

  pub any-stays : {cs ds : List Column} → StayUpTo cs ds → list_any stops ds ≡ list_any stops cs
  any-stays none = refl
  any-stays (ends k e) = rw (kept _ _ e, k) refl
  any-stays (more k e rest) = rw (kept _ _ e, k, any-stays rest) refl

  pub end-stays : {cs ds : List Column} → StayUpTo cs ds → list_any stops cs ≡ false → (q : Token) → end_of q ds ≡ end_of q cs
  end-stays none n q = refl
  end-stays (ends k e) n q = let m : true ≡ false = rw k at n in cc
  end-stays (more k e rest) n q = rw (e.end (fine _ k)) (end-stays rest (rw k at n) _)

  pub level-stays : {cs ds : List Column} → StayUpTo cs ds → list_any stops cs ≡ false → (l : ℕ) →
      fold (λ l (c : Column). max l c.level) l ds ≡ fold (λ l (c : Column). max l c.level) l cs
  level-stays none n l = refl
  level-stays (ends k e) n l = let m : true ≡ false = rw k at n in cc
  level-stays (more k e rest) n l = rw (e.level (fine _ k)) (level-stays rest (rw k at n) _)

  pub each-stays : {cs ds : List Column} → StayUpTo cs ds → ColumnsStay (up_to stops cs) (up_to stops ds)
  each-stays none = tt
  each-stays (ends k e) = rw (kept _ _ e, k) (e, tt)
  each-stays (more k e rest) = rw (kept _ _ e, k) (e, each-stays rest)

-- ---- fills

abbrev pub overflows : Column → Bool
overflows c = c.overflow

pub overflow-kept : (a b : Column) → ColumnStays a b → overflows b ≡ overflows a
overflow-kept a b e = e.overflow

pub fold-stays : (inner : Inner) (law : FillsStay inner) (d : FlowsData) (f : Flow) (n : ℕ) (q : Token) (lo h : ℕ) → lo ≤ h →
    IsBelowEach h (filled_by f q (columns inner d f n q lo)).bounds →
    FillStays (filled_by f q (columns inner d f n q lo)) (filled_by f q (columns inner d f n q h))
fold-stays inner law d f n q lo h le b =
    let same = columns-stay overflows overflow-kept (λ a k. k) inner law d f n q lo h le b in
    record {
      lines = lines-stay overflows overflow-kept (λ a k. k) same;
      overflow = any-stays overflows overflow-kept (λ a k. k) same;
      end = λ o. end-stays overflows overflow-kept (λ a k. k) same o q;
      at_end = λ o. ap (is_end f) (end-stays overflows overflow-kept (λ a k. k) same o q);
      level = λ o. level-stays overflows overflow-kept (λ a k. k) same o 0;
    }

fill-stays : (inner : Inner) (law : FillsStay inner) (d : FlowsData) (r : ℕ) (q : Token) (lo h : ℕ) → lo ≤ h
    → IsBelowEach h (fill_in inner d r q lo).bounds → FillStays (fill_in inner d r q lo) (fill_in inner d r q h)
unfolding fill_in
fill-stays inner law d r q lo h le b = fold-stays inner law d (flow_in d r) (row_of d r).n q lo h le b

-- one deeper, wherever it holds within
pub rows_to-stay : (d : FlowsData) (depth : ℕ) → FillsStay (rows_to d depth)
unfolding rows_to
rows_to-stay d zero = λ r q lo h le b.
    record { lines = refl; overflow = refl; end = λ _. refl; at_end = λ _. refl; level = λ _. refl }
rows_to-stay d (suc depth) = fill-stays (rows_to d depth) (rows_to-stay d depth) d

-- ---- what is judged, and what fits

pub fails-kept : (a b : Column) → ColumnStays a b → fails b ≡ fails a
fails-kept a b e = go a.overflow b.overflow e.overflow (λ n. e.level n)
  where
    go : (o u : Bool) → u ≡ o → (o ≡ false → b.level ≡ a.level) → (u || nat_lt 0 b.level) ≡ (o || nat_lt 0 a.level)
    go true true x l = refl
    go true false x l = cc
    go false true x l = cc
    go false false x l = ap (nat_lt 0) (l refl)

pub fails-fine : (c : Column) → fails c ≡ false → c.overflow ≡ false
fails-fine c n = go c.overflow n
  where
    go : (o : Bool) → (o || nat_lt 0 c.level) ≡ false → o ≡ false
    go true n = cc
    go false n = refl

module _ (inner : Inner) (law : FillsStay inner) (d : FlowsData) (r : ℕ) (q : Token) (lo h : ℕ) (le : lo ≤ h) where
  judged-columns : IsBelowEach h (bounds_of (judged inner d r q lo))
      → StayUpTo fails fails-kept fails-fine (columns inner d (flow_in d r) (most_columns (row_of d r).n (flow_in d r) q) q lo)
      (columns inner d (flow_in d r) (most_columns (row_of d r).n (flow_in d r) q) q h)
  unfolding judged
  judged-columns b = columns-stay fails fails-kept fails-fine inner law d (flow_in d r)
      (most_columns (row_of d r).n (flow_in d r) q) q lo h le b

  pub judged-stay : IsBelowEach h (bounds_of (judged inner d r q lo)) → ColumnsStay (judged inner d r q lo) (judged inner d r q h)
  unfolding judged
  judged-stay b = each-stays fails fails-kept fails-fine (judged-columns b)

  pub fits-stays : IsBelowEach h (bounds_of (judged inner d r q lo)) → fits inner d r q h ≡ fits inner d r q lo
  unfolding fits
  fits-stays b = go (list_any fails (columns inner d (flow_in d r) (most_columns (row_of d r).n (flow_in d r) q) q lo)) refl
    where
      same : StayUpTo fails fails-kept fails-fine
          (columns inner d (flow_in d r) (most_columns (row_of d r).n (flow_in d r) q) q lo)
          (columns inner d (flow_in d r) (most_columns (row_of d r).n (flow_in d r) q) q h)
      same = judged-columns b

      and-false : (x : Bool) → (x && false) ≡ false
      and-false true = refl
      and-false false = refl

      go : (x : Bool) → list_any fails (columns inner d (flow_in d r) (most_columns (row_of d r).n (flow_in d r) q) q lo) ≡ x →
          (is_end (flow_in d r) (end_of q (columns inner d (flow_in d r) (most_columns (row_of d r).n (flow_in d r) q) q h))
          && not (list_any fails (columns inner d (flow_in d r) (most_columns (row_of d r).n (flow_in d r) q) q h)))
          ≡ (is_end (flow_in d r) (end_of q (columns inner d (flow_in d r) (most_columns (row_of d r).n (flow_in d r) q) q lo))
          && not (list_any fails (columns inner d (flow_in d r) (most_columns (row_of d r).n (flow_in d r) q) q lo)))
      go true e = rw (any-stays fails fails-kept fails-fine same, e, and-false, and-false) refl
      go false e = rw (any-stays fails fails-kept fails-fine same, end-stays fails fails-kept fails-fine same e q) refl

-- ---- the law

pub breaks-stay : (d : FlowsData) (depth : ℕ) → BreaksAreConstant d depth
breaks-stay d depth = record {
  column_stays = column-stays (rows_to d depth) (rows_to-stay d depth) d;
  bounds_are_above = column-above (rows_to d depth) (rows_to-above d depth) d;
  folds_stay = fold-stays (rows_to d depth) (rows_to-stay d depth) d;
  fills_stay = rows_to-stay d depth;
  judged_stay = λ r q lo h le b. judged-stay (rows_to d depth) (rows_to-stay d depth) d r q lo h le b;
  fits_stays = λ r q lo h le b. fits-stays (rows_to d depth) (rows_to-stay d depth) d r q lo h le b;
}
