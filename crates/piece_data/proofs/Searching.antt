-- Ranges go from 0 up to the least height.
use Rattle.std.proofs.Common.{◌≡◌, ℕ, zero, suc, ◌+◌, ◌-◌, ◌<◌, ◌≤◌, Bool, true, false, cond, List, [], ◌∷◌, min, refl, sym}
use Rattle.std.proofs.Common.{subst}
use Rattle.std.proofs.Common.{◌∙◌, ap, arith, Option, Some, None, ◌⊎◌, inl, inr}
use Rattle.std.specs.Prelude.{nat_lt, nat_le, fold, All}
use Rattle.std.proofs.lemmas.Bool.{cases_lt}
use Rattle.std.proofs.lemmas.Bool.Decides.{nat_tests}
use Rattle.std.proofs.lemmas.List.Elements.{All-nil, All-cons}
use Rattle.flow_list.proofs.LeastHeight.{IsLeast as Least, least-is}
use Rattle.flow_list.specs.Column.{Filled}
use Rattle.flow_list.specs.Data.{FlowsData}
use Rattle.flow_list.specs.Rows.{least}
use Rattle.flow_list.specs.Tokens.{Token}
use Rattle.flow_laws.specs.Constant.{IsBelowEach, FillStays}
use Rattle.flow_laws.specs.LeastHeight.{IsLeast}
use Rattle.piece_data.specs.Holding.{GoOn, HasReason, PieceHolds, RangeBegins, SearchGoesOn, ranges_from, range_end}
use Rattle.piece_data.specs.LeastPiece.{Unfit, unfit, will_do, cut_piece, least_height, UnfitRange, ranges_below, unfit_ranges}
use Rattle.piece_data.proofs.Reasons.{do-none, none-does, does-itself, unfit-stays, piece-stays, piece-above}

-- ---- the least bound

pub least-le : (n : ℕ) (bs : List ℕ) → fold min n bs ≤ n
least-le n [] = omega arith
least-le n (b ∷ bs) = let k = least-le (min n b) bs in omega arith

pub least-over : (low n : ℕ) (bs : List ℕ) → low < n → IsBelowEach low bs → low < fold min n bs
least-over low n [] lt below = lt
least-over low n (b ∷ bs) lt below = let k = below.0 in least-over low (min n b) bs (omega arith) below.1

below-each : (h n : ℕ) (bs : List ℕ) → h < fold min n bs → IsBelowEach h bs
below-each h n [] lt = tt
below-each h n (b ∷ bs) lt = let k = least-le (min n b) bs in (omega arith, below-each h (min n b) bs lt)

pub least-capped : (top n : ℕ) (bs : List ℕ) → fold min (min top n) bs ≡ min top (fold min n bs)
least-capped top n [] = refl
least-capped top n (b ∷ bs) =
    let e : min (min top n) b ≡ min top (min n b) = omega arith in
    ap (λ m. fold min m bs) e ∙ least-capped top (min n b) bs

-- ---- ranges of heights of which the reason stays

module _ (made : ℕ → Filled) (wanted : Filled) (top : ℕ)
    (stays : (lo h : ℕ) → lo ≤ h → IsBelowEach h (made lo).bounds → FillStays (made lo) (made h))
    (above : (h : ℕ) → IsBelowEach h (made h).bounds) where
  abbrev pub Reason : UnfitRange → Type 0
  Reason x = (h : ℕ) → x.low ≤ h → h < x.high → unfit wanted (made h) ≡ Some x.reason

  -- the range that begins at a height, and the rest of them after it
  abbrev first_of : (low : ℕ) (past : Bool) (why : Option Unfit) (rest : List UnfitRange) → List UnfitRange
  first_of low past why rest = elim past [
    | true ↦ []
    | false ↦ elim why [
      | None ↦ []
      | Some reason ↦ record { low = low; high = fold min top (made low).bounds; reason = reason } ∷ rest
    ]
  ]

  pub each-reason : (n low : ℕ) → All Reason (ranges_below made wanted top n low)
  unfolding ranges_below
  each-reason zero low = All-nil Reason
  each-reason (suc n) low =
      go (nat_le top low) (unfit wanted (made low)) refl (each-reason n (fold min top (made low).bounds))
    where
      go : (past : Bool) (why : Option Unfit) → unfit wanted (made low) ≡ why →
          All Reason (ranges_below made wanted top n (fold min top (made low).bounds)) →
          All Reason (first_of low past why (ranges_below made wanted top n (fold min top (made low).bounds)))
      go true why e rest = All-nil Reason
      go false None e rest = All-nil Reason
      go false (Some reason) e rest = All-cons Reason
          (record { low = low; high = fold min top (made low).bounds; reason = reason })
          (ranges_below made wanted top n (fold min top (made low).bounds))
          (λ h le lt. unfit-stays wanted (made low) (made h)
          (stays low h le (below-each h top (made low).bounds lt)) ∙ e) rest

  module _ (none : (k : ℕ) → k < top → will_do wanted (made k) ≡ false) where
    not-done : (low : ℕ) → low < top → unfit wanted (made low) ≡ None → ⊥
    not-done low lt e = let a = none-does wanted (made low) e in let b = none low lt in absurd cc

    pub all-go-on : (n low : ℕ) → low ≤ top → top ≤ low + n → GoOn low top (ranges_below made wanted top n low)
    unfolding ranges_below
    all-go-on zero low le reach = omega arith
    all-go-on (suc n) low le reach =
        go (nat_le top low) refl (unfit wanted (made low)) refl (all-go-on n (fold min top (made low).bounds))
      where
        go : (past : Bool) → nat_le top low ≡ past → (why : Option Unfit) → unfit wanted (made low) ≡ why →
            (fold min top (made low).bounds ≤ top → top ≤ fold min top (made low).bounds + n →
            GoOn (fold min top (made low).bounds) top (ranges_below made wanted top n (fold min top (made low).bounds))) →
            GoOn low top (first_of low past why (ranges_below made wanted top n (fold min top (made low).bounds)))
        go true past why e rest = let k : top ≤ low = grind (arith, nat_tests) in omega arith
        go false past None e rest = let lt : low < top = grind (arith, nat_tests) in absurd (not-done low lt e)
        go false past (Some reason) e rest =
            let lt : low < top = grind (arith, nat_tests) in
            let over = least-over low top (made low).bounds lt (above low) in
            (refl, over, rest (least-le top (made low).bounds) (omega arith))

    -- how many are asked for doesn't matter where they are enough
    pub enough : (n m low : ℕ) → low ≤ top → top ≤ low + n → top ≤ low + m →
        ranges_below made wanted top n low ≡ ranges_below made wanted top m low
    unfolding ranges_below
    enough zero zero low le a b = refl
    enough zero (suc m) low le a b = go (nat_le top low) refl
      where
        go : (past : Bool) → nat_le top low ≡ past → [] ≡ first_of low past (unfit wanted (made low))
            (ranges_below made wanted top m (fold min top (made low).bounds))
        go true past = refl
        go false past = let lt : low < top = grind (arith, nat_tests) in absurd (omega arith)
    enough (suc n) zero low le a b = go (nat_le top low) refl
      where
        go : (past : Bool) → nat_le top low ≡ past → first_of low past (unfit wanted (made low))
            (ranges_below made wanted top n (fold min top (made low).bounds)) ≡ []
        go true past = refl
        go false past = let lt : low < top = grind (arith, nat_tests) in absurd (omega arith)
    enough (suc n) (suc m) low le a b =
        go (nat_le top low) refl (unfit wanted (made low)) (enough n m (fold min top (made low).bounds))
      where
        go : (past : Bool) → nat_le top low ≡ past → (why : Option Unfit) →
            (fold min top (made low).bounds ≤ top → top ≤ fold min top (made low).bounds + n →
            top ≤ fold min top (made low).bounds + m → ranges_below made wanted top n (fold min top (made low).bounds)
            ≡ ranges_below made wanted top m (fold min top (made low).bounds)) →
            first_of low past why (ranges_below made wanted top n (fold min top (made low).bounds))
            ≡ first_of low past why (ranges_below made wanted top m (fold min top (made low).bounds))
        go true past why rest = refl
        go false past None rest = refl
        go false past (Some reason) rest =
            let lt : low < top = grind (arith, nat_tests) in
            let over = least-over low top (made low).bounds lt (above low) in
            ap (λ xs. record { low = low; high = fold min top (made low).bounds; reason = reason } ∷ xs)
            (rest (least-le top (made low).bounds) (omega arith) (omega arith))

    first-range : (n low : ℕ) (reason : Unfit) → low < top → unfit wanted (made low) ≡ Some reason →
        ranges_below made wanted top (suc n) low
        ≡ record { low = low; high = fold min top (made low).bounds; reason = reason }
        ∷ ranges_below made wanted top n (fold min top (made low).bounds)
    unfolding ranges_below
    first-range n low reason lt why =
        let past : nat_le top low ≡ false = grind (arith, nat_tests) in
        let rest = ranges_below made wanted top n (fold min top (made low).bounds) in
        ap (λ b. first_of low b (unfit wanted (made low)) rest) past ∙ ap (λ o. first_of low false o rest) why

    -- a range that begins below the top goes on from its end
    pub one-more : (low : ℕ) (reason : Unfit) → low < top → unfit wanted (made low) ≡ Some reason →
        ranges_below made wanted top (top - low) low
        ≡ record { low = low; high = fold min top (made low).bounds; reason = reason }
        ∷ ranges_below made wanted top (top - fold min top (made low).bounds) (fold min top (made low).bounds)
    one-more low reason lt why =
        let over = least-over low top (made low).bounds lt (above low) in
        let le = least-le top (made low).bounds in
        enough (top - low) (suc (top - low - 1)) low (omega arith) (omega arith) (omega arith)
        ∙ first-range (top - low - 1) low reason lt why
        ∙ ap (λ xs. record { low = low; high = fold min top (made low).bounds; reason = reason } ∷ xs)
        (enough (top - low - 1) (top - fold min top (made low).bounds) (fold min top (made low).bounds) le (omega arith)
        (omega arith))

    -- the cut at a greater height is that at the top, where the top will do
    pub same-end : (a low : ℕ) (reason : Unfit) → will_do wanted (made top) ≡ true → low ≤ top → top ≤ a →
        unfit wanted (made low) ≡ Some reason → fold min a (made low).bounds ≤ top
    same-end a low reason does le high why = which (cases_lt top (fold min a (made low).bounds))
      where
        which : (top < fold min a (made low).bounds) ⊎ (fold min a (made low).bounds ≤ top) → fold min a (made low).bounds ≤ top
        which (inr k) = k
        which (inl lt) =
            let same = unfit-stays wanted (made low) (made top) (stays low top le (below-each top a (made low).bounds lt)) in
            let none = do-none wanted (made top) does in
            absurd cc
