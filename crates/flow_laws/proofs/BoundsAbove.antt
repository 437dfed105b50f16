-- The heights at which a column may change are all above its own.
use Rattle.std.proofs.Common.{◌≡◌, ℕ, zero, suc, ◌+◌, ◌<◌, ◌≤◌, Bool, true, false, cond, ◌&&◌, List, [], ◌∷◌, ◌++◌, map, length}
use Rattle.std.proofs.Common.{Option, Some, None, refl, arith}
use Rattle.std.specs.Prelude.{nat_lt}
use Rattle.std.proofs.lemmas.Bool.Decides.{nat_tests}
use Rattle.flow_list.specs.Data.{Flow, FlowsData}
use Rattle.flow_data.specs.Flows.{row_of, flow_in}
use Rattle.flow_list.specs.Tokens.{Token, is_end}
use Rattle.flow_list.specs.Column.{Column, Inner, Step, bounds_at, cut, longer, fill_in_room, room, is_cut, column, column_up_to}
use Rattle.flow_list.specs.Column.{steps_from, avoids_at}
use Rattle.flow_list.specs.Rows.{columns, columns_by, fails, most_columns, up_to, fill_in, rows_to, all_rows}
use Rattle.flow_list.specs.Ranges.{judged, bounds_of}
use Rattle.flow_list.proofs.ColumnParts.{OfStop}
use Rattle.flow_laws.specs.Constant.{IsBelowEach}
use Rattle.flow_laws.proofs.StopStays.{IsBelowEach-append, above-place, cut-from, cut-room}

below-append : (h : ℕ) (xs ys : List ℕ) → IsBelowEach h xs → IsBelowEach h ys → IsBelowEach h (xs ++ ys)
below-append h [] ys a b = b
below-append h (x ∷ xs) ys a b = (a.0, below-append h xs ys a.1 b)

shifted-above : (h x a : ℕ) (bs : List ℕ) → h ≤ x + a → IsBelowEach a bs → IsBelowEach h (map (λ b. x + b) bs)
shifted-above h x a [] le all = tt
shifted-above h x a (b ∷ bs) le all = let lt = all.0 in (omega arith, shifted-above h x a bs le all.1)

-- what the rows that stand in a flow make of a height may change at greater heights alone
abbrev pub FillsAbove : Inner → Type 0
FillsAbove inner = (r : ℕ) (q : Token) (h : ℕ) → IsBelowEach h (inner.fill r q h).bounds

module _ (inner : Inner) (above : FillsAbove inner) where
  stop-above : (h : ℕ) (s : Step) (row : Option (ℕ × Token)) → h < s.need
      → IsBelowEach h (bounds_at s h (fill_in_room inner row (room s h)))
  stop-above h s None lt = (lt, tt)
  stop-above h s (Some row) lt = (
    lt,
    below-append h (cond (nat_lt 0 s.height && nat_lt h (s.y + s.bottoms)) ((s.y + s.bottoms) ∷ []) [])
        (cond (is_cut s h) within []) (place (nat_lt 0 s.height && nat_lt h (s.y + s.bottoms)) refl)
        (inside (is_cut s h) refl),
  )
    where
      within : List ℕ
      within = (s.y + s.bottoms + s.height) ∷ map (λ b. s.y + s.bottoms + b) (inner.fill row.0 row.1 (room s h)).bounds

      place : (b : Bool) → (nat_lt 0 s.height && nat_lt h (s.y + s.bottoms)) ≡ b
          → IsBelowEach h (cond b ((s.y + s.bottoms) ∷ []) [])
      place true e = (above-place s h e, tt)
      place false e = tt

      inside : (b : Bool) → is_cut s h ≡ b → IsBelowEach h (cond b within [])
      inside true e =
          let from = cut-from s h e in
          let lack = cut-room s h e in (
            omega arith,
            shifted-above h (s.y + s.bottoms) (room s h) (inner.fill row.0 row.1 (room s h)).bounds (omega arith)
                (above row.0 row.1 (room s h)),
          )
      inside false e = tt

  -- the stop needs more than there is
  stop-high : (h : ℕ) (ss : List Step) → OfStop (λ s. h < s.need) (cut h ss).stop
  stop-high h [] = tt
  stop-high h (s ∷ ss) = go (nat_lt h s.need) refl (stop-high h ss)
    where
      go : (b : Bool) → nat_lt h s.need ≡ b → OfStop (λ s. h < s.need) (cut h ss).stop
          → OfStop (λ s. h < s.need) (cond b (record { before = []; stop = Some s }) (longer s (cut h ss))).stop
      go true e rest = let lt : h < s.need = grind (arith, nat_tests) in lt
      go false e rest = rest

  up_to-above : (avoids : ℕ → Bool) (h : ℕ) (before : List Step) (stop : Option Step) → OfStop (λ s. h < s.need) stop
      → IsBelowEach h (column_up_to inner avoids h before stop).bounds
  up_to-above avoids h before None lt = tt
  up_to-above avoids h before (Some s) lt = stop-above h s s.row lt

  pub column-above : (d : FlowsData) (f : Flow) (t : Token) (h : ℕ) → IsBelowEach h (column inner d f t h).bounds
  unfolding column
  column-above d f t h = up_to-above (avoids_at d f) h (cut h (steps_from inner d f t)).before
      (cut h (steps_from inner d f t)).stop (stop-high h (steps_from inner d f t))

  -- so are those of columns one after another
  pub columns-above : (d : FlowsData) (f : Flow) (n : ℕ) (t : Token) (h : ℕ) → IsBelowEach h (bounds_of (columns inner d f n t h))
  unfolding columns_by
  columns-above d f zero t h = tt
  columns-above d f (suc n) t h = go (is_end f t) (columns-above d f n (column inner d f t h).end h)
    where
      go : (b : Bool) → IsBelowEach h (bounds_of (columns inner d f n (column inner d f t h).end h)) →
          IsBelowEach h
          (bounds_of (elim b [ true ↦ [] | false ↦ column inner d f t h ∷ columns inner d f n (column inner d f t h).end h ]))
      go true rest = tt
      go false rest = below-append h (column inner d f t h).bounds _ (column-above d f t h) rest

-- and those of the first of them
front-above : (stops : Column → Bool) (h : ℕ) (cs : List Column) → IsBelowEach h (bounds_of cs)
    → IsBelowEach h (bounds_of (up_to stops cs))
front-above stops h [] b = tt
front-above stops h (c ∷ cs) b =
    let parts = IsBelowEach-append h c.bounds (bounds_of cs) b in
    below-append h c.bounds _ parts.0 (go (stops c) (front-above stops h cs parts.1))
  where
    go : (x : Bool) → IsBelowEach h (bounds_of (up_to stops cs)) → IsBelowEach h (bounds_of (cond x [] (up_to stops cs)))
    go true rest = tt
    go false rest = rest

-- so at each depth
pub rows_to-above : (d : FlowsData) (depth : ℕ) → FillsAbove (rows_to d depth)
unfolding rows_to fill_in
rows_to-above d zero = λ r q h. tt
rows_to-above d (suc depth) = λ r q h.
    front-above (λ c. c.overflow) h (columns (rows_to d depth) d (flow_in d r) (row_of d r).n q h)
    (columns-above (rows_to d depth) (rows_to-above d depth) d (flow_in d r) (row_of d r).n q h)

-- and so of the columns that are judged
pub judged-above-at : (d : FlowsData) (depth r : ℕ) (q : Token) (h : ℕ)
    → IsBelowEach h (bounds_of (judged (rows_to d depth) d r q h))
unfolding judged
judged-above-at d depth r q h =
    let n = most_columns (row_of d r).n (flow_in d r) q in
    front-above fails h (columns (rows_to d depth) d (flow_in d r) n q h)
    (columns-above (rows_to d depth) (rows_to-above d depth) d (flow_in d r) n q h)

pub judged-above : (d : FlowsData) (r : ℕ) (q : Token) (h : ℕ) → IsBelowEach h (bounds_of (judged (all_rows d) d r q h))
unfolding all_rows
judged-above d r q h = judged-above-at d (length d.rows) r q h
