-- What an engine answers of a fill is what is told of the piece.
use Rattle.std.proofs.Common.{◌≡◌, ℕ, ◌+◌, ◌-◌, ◌==◌, ◌&&◌, List, [], ◌∷◌, min, refl, ap, arith, Some}
use Rattle.std.specs.Prelude.{fold}
use Rattle.std.specs.Cmp.Lexicographic.{pointwise}
use Rattle.std.specs.Prelude.{nat_eq}
use Rattle.flow_data.specs.declared.data.FlowsData.{FlowsData}
use Rattle.flow_list.specs.Certificate.{same_token}
use Rattle.flow_list.specs.Folds.{fill_told, shortage}
use Rattle.flow_list.specs.Rows.{all_rows, fill_in}
use Rattle.flow_list.specs.Tokens.{Token}
use Rattle.flow_laws.specs.Constant.{IsBelowEach}
use Rattle.inner_rows.specs.Filling.{IsFilled}
use Rattle.inner_rows.specs.declared.inner.Filled.{Filled}
use Rattle.piece_data.specs.LeastPiece.{cut_piece}
use Rattle.piece_data.proofs.Searching.{least-capped, least-over}
use Rattle.piece_finder.specs.Telling.{Tells}

pub tokens-same : (p q : Token) → pointwise nat_eq p q ≡ same_token p q
tokens-same [] [] = refl
tokens-same [] (j ∷ q) = refl
tokens-same (i ∷ p) [] = refl
tokens-same (i ∷ p) (j ∷ q) = ap (λ b. (i == j) && b) (tokens-same p q)

pub filled-tells : (d : FlowsData) (r : ℕ) (q : Token) (h : ℕ) (out : Filled) → IsFilled (fill_told (all_rows d) d r q h) out →
    Tells (cut_piece d r q h) out
unfolding fill_in
filled-tells d r q h out filled =
    record { end = filled.end; level = filled.level.ranked; overflow = filled.overflow }

pub filled-short : (d : FlowsData) (r : ℕ) (q : Token) (h : ℕ) (out : Filled) → IsFilled (fill_told (all_rows d) d r q h) out →
    out.short ≡ shortage h (cut_piece d r q h).bounds
unfolding fill_in
filled-short d r q h out filled = filled.short

pub cut-end : (low short height : ℕ) (bs : List ℕ) → IsBelowEach low bs → Some short ≡ shortage low bs →
    min height (low + short) ≡ fold min height bs
cut-end low short height [] below is = absurd cc
cut-end low short height (b ∷ bs) below is =
    let same : short ≡ fold min b bs - low = cc in
    let over = least-over low b bs below.0 below.1 in
    let capped = least-capped height b bs in
    omega arith
