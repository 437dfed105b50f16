-- The images and forced breaks of the collapsed run, and how many pieces it has.
use Rattle.std.proofs.Common.{◌≡◌, ℕ, ◌*◌, ◌≤◌, Bool, true, false, ◌&&◌, ◌==◌, List, [], ◌∷◌, ◌++◌, length, refl, ap, ◌∙◌, cond}
use Rattle.std.proofs.Common.{replicate, filter, arith, length-append}
use Rattle.std.proofs.lemmas.List.Elements.{filter-append}
use Rattle.inline_text.specs.declared.content.Piece.{Piece}
use Rattle.inline_text.specs.declared.content.Piece.TheVariants.{Char, Image, Forced, Chance}
use Rattle.inline_text.specs.declared.content.RunStyle.{RunStyle}
use Rattle.inline_text.specs.declared.content.Runs.{Runs}
use Rattle.inline_text.specs.WhiteSpace.{keeps, is_white, char_becomes, piece_becomes, follows_content, precedes_content, becomes}
use Rattle.inline_text.specs.WhiteSpace.{collapsed_behind, collapsed, is_mark, mark_of_char, mark_of, marks}
use Rattle.inline_text.proofs.Settled.{by_test}

char_marked : (ch style : ℕ) (keep stays : Bool) → filter is_mark (char_becomes keep ch style stays) ≡ mark_of_char keep ch
char_marked ch style true stays =
    by_test (ch == 10) (λ t. filter is_mark
    (cond t (Forced ∷ []) (cond (ch == 9) (replicate 8 (Char 32 style)) (Char ch style ∷ []))) ≡ cond t (Forced ∷ []) [])
    (λ _. refl)
    (λ _. by_test (ch == 9) (λ t. filter is_mark (cond t (replicate 8 (Char 32 style)) (Char ch style ∷ [])) ≡ []) (λ _. refl)
    (λ _. refl))
char_marked ch style false stays =
    by_test (is_white ch) (λ t. filter is_mark (cond t (cond stays (Char 32 style ∷ []) []) (Char ch style ∷ [])) ≡ [])
    (λ _. by_test stays (λ s. filter is_mark (cond s (Char 32 style ∷ []) []) ≡ []) (λ _. refl) (λ _. refl))
    (λ _. refl)

piece_marked : (styles : List RunStyle) (piece : Piece) (stays : Bool)
    → filter is_mark (piece_becomes styles piece stays) ≡ mark_of styles piece
piece_marked styles (Char ch style) stays = char_marked ch style (keeps styles style) stays
piece_marked styles (Image w height style) stays = refl
piece_marked styles Forced stays = refl
piece_marked styles Chance stays = refl

collapsed_marked : (styles : List RunStyle) (before pieces : List Piece)
    → filter is_mark (collapsed_behind styles before pieces) ≡ marks styles pieces
collapsed_marked styles before [] = refl
collapsed_marked styles before (piece ∷ after) =
    filter-append is_mark (becomes styles before piece after) (collapsed_behind styles (piece ∷ before) after)
    ∙ ap (λ front. front ++ filter is_mark (collapsed_behind styles (piece ∷ before) after))
    (piece_marked styles piece (follows_content styles before && precedes_content styles after))
    ∙ ap (λ rest. mark_of styles piece ++ rest) (collapsed_marked styles (piece ∷ before) after)

pub answer_marks : (runs answer : Runs) → answer.pieces ≡ collapsed runs
    → filter is_mark answer.pieces ≡ marks runs.styles runs.pieces
answer_marks runs answer p = ap (filter is_mark) p ∙ collapsed_marked runs.styles [] runs.pieces

char_few : (ch style : ℕ) (keep stays : Bool) → length (char_becomes keep ch style stays) ≤ 8
char_few ch style true stays =
    by_test (ch == 10) (λ t. length
    (cond t (Forced ∷ []) (cond (ch == 9) (replicate 8 (Char 32 style)) (Char ch style ∷ []))) ≤ 8)
    (λ _. omega arith)
    (λ _. by_test (ch == 9) (λ t. length (cond t (replicate 8 (Char 32 style)) (Char ch style ∷ [])) ≤ 8) (λ _. omega arith)
    (λ _. omega arith))
char_few ch style false stays =
    by_test (is_white ch) (λ t. length (cond t (cond stays (Char 32 style ∷ []) []) (Char ch style ∷ [])) ≤ 8)
    (λ _. by_test stays (λ s. length (cond s (Char 32 style ∷ []) []) ≤ 8) (λ _. omega arith) (λ _. omega arith))
    (λ _. omega arith)

piece_few : (styles : List RunStyle) (piece : Piece) (stays : Bool) → length (piece_becomes styles piece stays) ≤ 8
piece_few styles (Char ch style) stays = char_few ch style (keeps styles style) stays
piece_few styles (Image w height style) stays = omega arith
piece_few styles Forced stays = omega arith
piece_few styles Chance stays = omega arith

collapsed_few : (styles : List RunStyle) (before pieces : List Piece)
    → length (collapsed_behind styles before pieces) ≤ 8 * length pieces
collapsed_few styles before [] = omega arith
collapsed_few styles before (piece ∷ after) =
    let here = piece_few styles piece (follows_content styles before && precedes_content styles after) in
    let behind = collapsed_few styles (piece ∷ before) after in
    let both = length-append (becomes styles before piece after) (collapsed_behind styles (piece ∷ before) after) in
    omega (arith, here, behind, both)

pub answer_few : (runs answer : Runs) → answer.pieces ≡ collapsed runs → length answer.pieces ≤ 8 * length runs.pieces
answer_few runs answer p = let few = collapsed_few runs.styles [] runs.pieces in let same = ap length p
    in omega (arith, few, same)
