-- Neighbours among the ranges of a row differ in their reasons or their lines.
use Rattle.std.proofs.Common.{◌≡◌, ℕ, zero, suc, ◌+◌, ◌<◌, ◌≤◌, ◌⊎◌, inl, inr, Bool, true, false, cond, List, [], ◌∷◌, ◌++◌, min}
use Rattle.std.proofs.Common.{max, refl, subst, sym, ◌∙◌, ap, arith, Option, Some, None}
use Rattle.std.specs.Prelude.{nat_lt, IfSome}
use Rattle.flow_list.specs.Data.{Flow, FlowsData}
use Rattle.flow_data.specs.Flows.{row_of, flow_in}
use Rattle.flow_laws.proofs.AllRanges.{least-above}
use Rattle.flow_laws.proofs.BoundsAbove.{judged-above}
use Rattle.flow_list.specs.Column.{Column}
use Rattle.flow_list.specs.Ranges.{Range, Reason, tall, area, left, bad, over, judged, bounds_of, lines_of, reason_of}
use Rattle.flow_list.specs.Ranges.{least_bound, is_past, searched, range_up_to, top_of, ranges, tallest_from, spread}
use Rattle.flow_list.specs.Ranges.{atoms_height}
use Rattle.flow_list.specs.Rows.{all_rows, most_columns, reach}
use Rattle.flow_list.specs.Tokens.{Token, is_end}
use Rattle.range_laws.specs.Neighbours.{Differ, NeighboursDiffer}
use Rattle.range_laws.proofs.Bounds.{Has, NoneBelow}
use Rattle.range_laws.proofs.LeastBounds.{is-least}

-- each of these ranges differs from the one before it, and the first from this one
abbrev NoTwins : Option Range → List Range → Type 0
NoTwins last [] = Unit {0}
NoTwins None (x ∷ xs) = NoTwins (Some x) xs
NoTwins (Some b) (x ∷ xs) = Differ b x × NoTwins (Some x) xs

-- whether a reason speaks of columns
abbrev tells : Reason → Bool
tells (tall k) = false
tells area = false
tells (left q) = true
tells (bad c) = true
tells (over c) = true

abbrev Speaks : Option Reason → Type 0
Speaks None = Unit {0}
Speaks (Some w) = tells w ≡ true

reason-speaks : (f : Flow) (c : ℕ) (q : Token) (cs : List Column) → Speaks (reason_of f c q cs)
reason-speaks f c q [] = go (is_end f q)
  where
    go : (b : Bool) → Speaks (cond b None (Some (left q)))
    go true = tt
    go false = refl
reason-speaks f c q (x ∷ cs) = go x.overflow (nat_lt 0 x.level) (reason-speaks f (c + 1) x.end cs)
  where
    go : (a b : Bool) → Speaks (reason_of f (c + 1) x.end cs) →
        Speaks (cond a (Some (over c)) (cond b (Some (bad c)) (reason_of f (c + 1) x.end cs)))
    go true b s = refl
    go false true s = refl
    go false false s = s

-- at the least bound of the columns that are judged their lines change
abbrev pub JudgedChange : FlowsData → ℕ → Token → Type 0
JudgedChange d r q = (lo h : ℕ) → lo ≤ h → NoneBelow h (bounds_of (judged (all_rows d) d r q lo)) →
    Has h (bounds_of (judged (all_rows d) d r q lo)) →
    lines_of (judged (all_rows d) d r q lo) ≡ lines_of (judged (all_rows d) d r q h) → ⊥

module _ (d : FlowsData) (r : ℕ) (q : Token) (changes : JudgedChange d r q) where
  abbrev columns_at : ℕ → List Column
  columns_at h = judged (all_rows d) d r q h

  abbrev range_at : ℕ → ℕ → Reason → Range
  range_at low high w = record { low = low; high = high; reason = w; lines = lines_of (columns_at low) }

  -- what stands before the ranges from a height on: nothing, a range that speaks of no columns, or one of columns whose least
  -- bound this is
  abbrev Before : Option ℕ → Option Range → ℕ → Type 0
  Before top None low = Unit {0}
  Before top (Some b) low = (tells b.reason ≡ false) ⊎ ((from : ℕ) × (from < low) ×
      (least_bound top (bounds_of (columns_at from)) ≡ Some low) × (b.lines ≡ lines_of (columns_at from)))

  differs : (top : Option ℕ) (last : Option Range) (low high : ℕ) (w : Reason) → Before top last low → is_past top low ≡ false →
      tells w ≡ true → (xs : List Range) → NoTwins (Some (range_at low high w)) xs →
      NoTwins last (range_at low high w ∷ xs)
  differs top None low high w b past t xs more = more
  differs top (Some a) low high w (inl none) past t xs more =
      ((λ same lines. let k : tells a.reason ≡ tells w = ap tells same in cc), more)
  differs top (Some a) low high w (inr (from, lt, at, told)) past t xs more =
      let k = is-least top low (bounds_of (columns_at from)) at past in
      ((λ same lines. changes from low (omega arith) k.0 k.1 (sym told ∙ lines)), more)

  -- the ranges of columns, from a height on
  abbrev FromDiffer : Option ℕ → ℕ → Type 0
  FromDiffer top n = (low : ℕ) (last : Option Range) → Before top last low → NoTwins last (searched (all_rows d) d r q top n low)

  searched-differ : (top : Option ℕ) (n : ℕ) → FromDiffer top n
  unfolding searched
  searched-differ top zero low last b = none last
    where
      none : (last : Option Range) → NoTwins last []
      none last = tt
  searched-differ top (suc n) low last b = go (searched-differ top n) (is_past top low) refl
    where
      by_bound : FromDiffer top n → is_past top low ≡ false → (w : Reason) → tells w ≡ true → (o : Option ℕ) →
          least_bound top (bounds_of (columns_at low)) ≡ o →
          NoTwins last (elim o as (λ _. List Range) [
            | None ↦ []
            | Some high ↦ range_at low high w ∷ searched (all_rows d) d r q
                top n high
          ])
      by_bound later past w t None is = tt
      by_bound later past w t (Some high) is =
          let lt : low < high = subst (λ o. IfSome o (λ h. low < h)) is
          (least-above top (bounds_of (columns_at low)) low past (judged-above d r q low)) in
          differs top last low high w b past t (searched (all_rows d) d r q top n high)
          (later high (Some (range_at low high w)) (inr (low, lt, is, refl)))

      by_reason : FromDiffer top n → is_past top low ≡ false → (o : Option Reason) → Speaks o →
          NoTwins last (elim o as (λ _. List Range) [
            | None ↦ []
            | Some w ↦ elim (least_bound top (bounds_of (columns_at low))) as (λ _. List Range)
                [ None ↦ [] | Some high ↦ range_at low high w ∷ searched (all_rows d) d r q top n high ]
          ])
      by_reason later past None s = tt
      by_reason later past (Some w) s = by_bound later past w s (least_bound top (bounds_of (columns_at low))) refl

      go : FromDiffer top n → (p : Bool) → is_past top low ≡ p →
          NoTwins last (elim p as (λ _. List Range) [
            | true ↦ []
            | false ↦ elim (reason_of (flow_in d r) 1 q (columns_at low)) as (λ _. List Range) [
              | None ↦ []
              | Some w ↦ elim (least_bound top (bounds_of (columns_at low))) as (λ _. List Range)
                  [ None ↦ [] | Some high ↦ range_at low high w ∷ searched (all_rows d) d r q top n high ]
            ]
          ])
      go later true e = tt
      go later false e = by_reason later e (reason_of (flow_in d r) 1 q (columns_at low))
          (reason-speaks (flow_in d r) 1 q (columns_at low))

-- ---- all ranges

-- one range or none
abbrev AtMostOne : Reason → List Range → Type 0
AtMostOne w [] = Unit {0}
AtMostOne w (x ∷ xs) = (x.reason ≡ w) × (xs ≡ [])

up-to-one : (top : Option ℕ) (low high : ℕ) (w : Reason) → AtMostOne w (range_up_to top low high w)
up-to-one None low high w = go (nat_lt low high)
  where
    go : (b : Bool) → AtMostOne w (cond b (record { low = low; high = high; reason = w; lines = [] } ∷ []) [])
    go true = (refl, refl)
    go false = tt
up-to-one (Some t) low high w = go (nat_lt low (min high t))
  where
    go : (b : Bool) → AtMostOne w (cond b (record { low = low; high = min high t; reason = w; lines = [] } ∷ []) [])
    go true = (refl, refl)
    go false = tt

-- one range at most that is tall, one at most of area, and then those of columns
parts-differ : (xs : List Range) (k : ℕ) → AtMostOne (tall k) xs → (ys : List Range) → AtMostOne area ys → (zs : List Range) →
    ((last : Option Range) → IfSome last (λ b. tells b.reason ≡ false) → NoTwins last zs) →
    NoTwins None (xs ++ ys ++ zs)
parts-differ [] k a [] c zs rest = rest None tt
parts-differ [] k a (y ∷ ys) c zs rest = subst (λ us. NoTwins (Some y) (us ++ zs)) (sym c.1) (rest (Some y) (ap tells c.0))
parts-differ (x ∷ xs) k a [] c zs rest = subst (λ us. NoTwins (Some x) ((us ++ []) ++ zs)) (sym a.1)
    (rest (Some x) (ap tells a.0))
parts-differ (x ∷ xs) k a (y ∷ ys) c zs rest =
    let last : NoTwins (Some y) (ys ++ zs) = subst (λ us. NoTwins (Some y) (us ++ zs)) (sym c.1) (rest (Some y) (ap tells c.0)) in
    subst (λ us. NoTwins (Some x) ((us ++ (y ∷ ys)) ++ zs)) (sym a.1) (other a.0 c.0, last)
  where
    other : x.reason ≡ tall k → y.reason ≡ area → Differ x y
    other e g same lines = let h : tall k ≡ area = sym e ∙ same ∙ g in cc

-- so of each two neighbours
next-differ : (a : Range) (xs : List Range) → NoTwins (Some a) xs → NeighboursDiffer (a ∷ xs)
next-differ a [] n = tt
next-differ a (b ∷ xs) n = (n.0, next-differ b xs n.1)

all-differ : (xs : List Range) → NoTwins None xs → NeighboursDiffer xs
all-differ [] n = tt
all-differ (x ∷ xs) n = next-differ x xs n

-- no two ranges of a row that follow each other have the same reason and the same lines
pub ranges-differ : (d : FlowsData) (r : ℕ) (q : Token) → JudgedChange d r q → (available : Option ℕ) →
    NeighboursDiffer (ranges (all_rows d) d r q available)
unfolding ranges
ranges-differ d r q changes available =
    let f = flow_in d r in
    let top = top_of available in
    let best = tallest_from (all_rows d) d f q in
    let wide = spread (atoms_height f q) (most_columns (row_of d r).n f q) in
    all-differ _ (parts-differ (range_up_to top 0 best.need (tall best.item)) best.item
    (up-to-one top 0 best.need (tall best.item)) (range_up_to top best.need wide area) (up-to-one top best.need wide area)
    (searched (all_rows d) d r q top (reach (all_rows d) d f q + 1) (max best.need wide))
    (λ last b. searched-differ d r q changes top (reach (all_rows d) d f q + 1) (max best.need wide) last
    (before top (max best.need wide) last b)))
  where
    before : (top : Option ℕ) (low : ℕ) (last : Option Range) → IfSome last (λ b. tells b.reason ≡ false) →
        Before d r q changes top last low
    before top low None b = tt
    before top low (Some x) b = inl b
