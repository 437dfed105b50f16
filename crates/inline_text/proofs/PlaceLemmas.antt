-- Break opportunities piece by piece, by what stands before each piece.
use Rattle.std.proofs.Common.{◌≡◌, ℕ, ◌+◌, ◌<◌, Bool, ◌&&◌, ◌||◌, List, [], ◌∷◌, ◌++◌, Some, length, refl, ap, ◌∙◌, subst, zero}
use Rattle.std.proofs.Common.{suc, take, drop, reverse, arith}
use Rattle.std.specs.List.{slice_get}
use Rattle.std.proofs.lemmas.List.{append-nil}
use Rattle.inline_text.specs.declared.content.Piece.{Piece}
use Rattle.inline_text.specs.declared.content.RunStyle.{RunStyle}
use Rattle.inline_text.specs.declared.content.Runs.{Runs}
use Rattle.inline_text.specs.Opportunities.{may_wrap, wrap_or, begins_with_letter, letter_or, begins_with_image, lets_break}
use Rattle.inline_text.specs.Opportunities.{is_opportunity, opportunity_at, opportunities_behind}
use Rattle.inline_text.proofs.CollapsedRun.{reversed_onto}

-- the opportunities after these pieces, where what stands before them allows wrapping or not, and ends with a letter or not
abbrev pub opportunities_after : List RunStyle → (wraps letter : Bool) → List Piece → List Bool
opportunities_after styles wraps letter [] = []
opportunities_after styles wraps letter (piece ∷ after) =
    (wrap_or styles piece wraps && (lets_break styles piece (letter && begins_with_letter after) || begins_with_image after))
    ∷ opportunities_after styles (wrap_or styles piece wraps) (letter_or piece letter) after

pub opportunities_behind_after : (styles : List RunStyle) (before pieces : List Piece)
    → opportunities_behind styles before pieces ≡ opportunities_after styles (may_wrap styles before) (begins_with_letter before)
    pieces
opportunities_behind_after styles before [] = refl
opportunities_behind_after styles before (piece ∷ after) =
    ap (λ rest. is_opportunity styles (piece ∷ before) after ∷ rest) (opportunities_behind_after styles (piece ∷ before) after)

place_behind : (styles : List RunStyle) (before pieces : List Piece) (k : ℕ) → k < length pieces
    → slice_get (opportunities_behind styles before pieces) k
    ≡ Some (is_opportunity styles (reverse (take (suc k) pieces) ++ before) (drop (suc k) pieces))
place_behind styles before [] k h = absurd (omega arith)
place_behind styles before (x ∷ after) zero h = refl
place_behind styles before (x ∷ after) (suc k) h =
    place_behind styles (x ∷ before) after k (omega arith)
    ∙ ap (λ b. Some (is_opportunity styles b (drop (suc k) after))) (reversed_onto x (take (suc k) after) before)

-- each place of a run, by its number
pub place_at : (runs : Runs) (k : ℕ) → k < length runs.pieces
    → slice_get (opportunities_behind runs.styles [] runs.pieces) k ≡ Some (opportunity_at runs (k + 1))
place_at runs k h =
    let next : suc k ≡ k + 1 = omega arith in
    subst (λ (n : ℕ). slice_get (opportunities_behind runs.styles [] runs.pieces) k
    ≡ Some (is_opportunity runs.styles (reverse (take n runs.pieces)) (drop n runs.pieces))) next
    (place_behind runs.styles [] runs.pieces k h
    ∙ ap (λ b. Some (is_opportunity runs.styles b (drop (suc k) runs.pieces))) (append-nil (reverse (take (suc k) runs.pieces))))
