-- The law of least pieces, and of searches for them.
use Rattle.std.proofs.Common.{◌≡◌, ℕ, zero, suc, ◌+◌, ◌-◌, ◌<◌, ◌≤◌, Bool, true, false, cond, List, [], ◌∷◌, min, refl, sym}
use Rattle.std.proofs.Common.{subst}
use Rattle.std.proofs.Common.{◌∙◌, ap, arith, Option, Some, None, ◌⊎◌, inl, inr}
use Rattle.std.specs.Prelude.{nat_le, fold, All}
use Rattle.std.proofs.lemmas.Bool.{cases_lt}
use Rattle.std.proofs.lemmas.List.Elements.{All-nil}
use Rattle.flow_list.proofs.LeastHeight.{IsLeast as Least, least-is}
use Rattle.flow_list.specs.Column.{Filled}
use Rattle.flow_list.specs.Data.{FlowsData}
use Rattle.flow_list.specs.Rows.{least}
use Rattle.flow_list.specs.Tokens.{Token}
use Rattle.flow_laws.specs.LeastHeight.{IsLeast}
use Rattle.piece_data.specs.Holding.{GoOn, HasReason, PieceHolds, RangeBegins, SearchGoesOn, ranges_from, range_end}
use Rattle.piece_data.specs.LeastPiece.{Unfit, unfit, will_do, cut_piece, least_height, UnfitRange, ranges_below, unfit_ranges}
use Rattle.piece_data.proofs.Reasons.{do-none, none-does, does-itself, piece-stays, piece-above}
use Rattle.piece_data.proofs.Searching.{all-go-on, each-reason, enough, one-more, same-end, least-over, least-le, least-capped}

module _ (d : FlowsData) (r : ℕ) (q : Token) (a : ℕ) where
  Does : ℕ → Bool
  Does h = will_do (cut_piece d r q a) (cut_piece d r q h)

  least-piece : (cut_piece d r q a).overflow ≡ false → IsLeast Does (least_height d r q a)
  unfolding least_height Does
  least-piece fine =
      let k = least-is Does a 0 a (λ k lt. absurd (omega arith)) (omega arith) (omega arith) (does-itself
      (cut_piece d r q a) fine) in
      rw fine (record { passes_at = k.itself; none_below = k.below })

  no-higher : least_height d r q a ≤ a
  unfolding least_height Does
  no-higher = go (cut_piece d r q a).overflow refl
    where
      go : (o : Bool) → (cut_piece d r q a).overflow ≡ o → cond o a (least Does a 0) ≤ a
      go true e = omega arith
      go false e =
          let k = least-is Does a 0 a (λ k lt. absurd (omega arith)) (omega arith) (omega arith)
          (does-itself (cut_piece d r q a) e) in
          which k (cases_lt a (least Does a 0))
        where
          which : Least Does (least Does a 0) → (a < least Does a 0) ⊎ (least Does a 0 ≤ a) → least Does a 0 ≤ a
          which k (inr le) = le
          which k (inl lt) = let x = k.below a lt in let y : Does a ≡ true = does-itself (cut_piece d r q a) e in absurd cc

  ranges-are : (cut_piece d r q a).overflow ≡ false → unfit_ranges d r q a
      ≡ ranges_below (cut_piece d r q) (cut_piece d r q a) (least_height d r q a) (least_height d r q a) 0
  unfolding unfit_ranges
  ranges-are fine = ap (λ o. cond o []
      (ranges_below (cut_piece d r q) (cut_piece d r q a) (least_height d r q a) (least_height d r q a) 0)) fine

  pub piece-holds : PieceHolds d r q a
  unfolding unfit_ranges Does
  piece-holds = record {
    least = least-piece;
    no_higher = no-higher;
    go_on = λ fine. subst (λ xs. GoOn 0 (least_height d r q a) xs) (sym (ranges-are fine)) (all-go-on (cut_piece d r q)
        (cut_piece d r q a) (least_height d r q a) (piece-stays d r q)
        (piece-above d r q) (least-piece fine).none_below (least_height d r q a) 0 (omega arith) (omega arith));
    reasons = go (cut_piece d r q a).overflow;
  }
    where
      go : (o : Bool) → All (HasReason d r q a) (cond o [] (ranges_below (cut_piece d r q) (cut_piece d r q a)
          (least_height d r q a) (least_height d r q a) 0))
      go true = All-nil (HasReason d r q a)
      go false = each-reason (cut_piece d r q) (cut_piece d r q a) (least_height d r q a) (piece-stays d r q)
          (piece-above d r q) (least_height d r q a) 0

  module _ (fine : (cut_piece d r q a).overflow ≡ false) where
    top : ℕ
    top = least_height d r q a

    rejected : (low : ℕ) (reason : Unfit) → low ≤ top → unfit (cut_piece d r q a) (cut_piece d r q low) ≡ Some reason →
        RangeBegins d r q a low reason
    unfolding top Does
    rejected low reason le why = which (cases_lt low top)
      where
        which : (low < top) ⊎ (top ≤ low) → RangeBegins d r q a low reason
        which (inl lt) =
            let high = no-higher in
            let end = same-end (cut_piece d r q) (cut_piece d r q a) top (piece-stays d r q) (piece-above d r q)
            (least-piece fine).none_below a low reason (least-piece fine).passes_at le high why in
            let capped = least-capped top a (cut_piece d r q low).bounds in
            let is : min top a ≡ top = omega arith in
            let same : fold min top (cut_piece d r q low).bounds ≡ range_end d r q a low =
            ap (λ n. fold min n (cut_piece d r q low).bounds) (sym is) ∙ capped ∙ (omega arith) in
            record {
              above = least-over low a (cut_piece d r q low).bounds (omega arith) (piece-above d r q low);
              no_higher = end;
              first = subst (λ e. ranges_from d r q a low ≡ record { low = low; high = e; reason = reason }
                  ∷ ranges_from d r q a e)
                  same (one-more (cut_piece d r q) (cut_piece d r q a) top (piece-stays d r q) (piece-above d r q)
                  (least-piece fine).none_below low reason lt why);
            }
        which (inr ge) =
            let same : low ≡ top = omega arith in
            let none = do-none (cut_piece d r q a) (cut_piece d r q top) (least-piece fine).passes_at in
            let none_here : unfit (cut_piece d r q a) (cut_piece d r q low) ≡ None = rw same none in
            absurd cc

    pub search-goes-on : SearchGoesOn d r q a
    unfolding unfit_ranges top Does ranges_below
    search-goes-on = record {
      all = let e : top - 0 ≡ top = omega arith in
          ap (λ n. ranges_below (cut_piece d r q) (cut_piece d r q a) top n 0) e ∙ sym (ranges-are fine);
      none_left = let e : top - top ≡ 0 = omega arith in rw e refl;
      rejected = rejected;
      found = λ low le none. which low le (none-does (cut_piece d r q a) (cut_piece d r q low) none) (cases_lt low top);
    }
      where
        which : (low : ℕ) → low ≤ top → Does low ≡ true → (low < top) ⊎ (top ≤ low) → low ≡ top
        which low le does (inl lt) = let x = (least-piece fine).none_below low lt in absurd cc
        which low le does (inr ge) = omega arith
