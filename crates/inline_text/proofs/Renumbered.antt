-- Numbering the styles anew, with white space kept where it was, changes nothing else.
use Rattle.std.proofs.Common.{◌≡◌, ℕ, Bool, true, false, ◌&&◌, ◌==◌, List, [], ◌∷◌, ◌++◌, map, refl, sym, ap, ◌∙◌, cond}
use Rattle.std.proofs.Common.{replicate, All}
use Rattle.std.specs.List.{AllByRecursion}
use Rattle.std.proofs.lemmas.List.{map-append}
use Rattle.std.proofs.lemmas.List.Elements.{recursion_from_All}
use Rattle.inline_text.specs.declared.content.Piece.{Piece}
use Rattle.inline_text.specs.declared.content.Piece.TheVariants.{Char, Image, Forced, Chance}
use Rattle.inline_text.specs.declared.content.RunStyle.{RunStyle}
use Rattle.inline_text.specs.WhiteSpace.{keeps, is_white, char_becomes, kind_of_char, piece_becomes, kind_of, content_or}
use Rattle.inline_text.specs.WhiteSpace.{content_behind, precedes_content, collapsed, renumbered, KeepsToo}
use Rattle.inline_text.proofs.Scan.{collapsed_at, collapsed_behind_at}
use Rattle.inline_text.proofs.Settled.{by_test}

char_again : (number : ℕ → ℕ) (ch style : ℕ) (keep stays : Bool)
    → char_becomes keep ch (number style) stays ≡ map (renumbered number) (char_becomes keep ch style stays)
char_again number ch style true stays =
    by_test (ch == 10) (λ t. cond t (Forced ∷ [])
    (cond (ch == 9) (replicate 8 (Char 32 (number style))) (Char ch (number style) ∷ []))
    ≡ map (renumbered number) (cond t (Forced ∷ []) (cond (ch == 9) (replicate 8 (Char 32 style)) (Char ch style ∷ []))))
    (λ _. refl)
    (λ _. by_test (ch == 9) (λ t. cond t (replicate 8 (Char 32 (number style))) (Char ch (number style) ∷ [])
    ≡ map (renumbered number) (cond t (replicate 8 (Char 32 style)) (Char ch style ∷ []))) (λ _. refl) (λ _. refl))
char_again number ch style false stays =
    by_test (is_white ch) (λ t. cond t (cond stays (Char 32 (number style) ∷ []) []) (Char ch (number style) ∷ [])
    ≡ map (renumbered number) (cond t (cond stays (Char 32 style ∷ []) []) (Char ch style ∷ [])))
    (λ _. by_test stays (λ s. cond s (Char 32 (number style) ∷ []) [] ≡ map (renumbered number) (cond s (Char 32 style ∷ []) []))
    (λ _. refl) (λ _. refl))
    (λ _. refl)

piece_again : (styles others : List RunStyle) (number : ℕ → ℕ) (piece : Piece) (stays : Bool)
    → KeepsToo styles others number piece
    → piece_becomes others (renumbered number piece) stays ≡ map (renumbered number) (piece_becomes styles piece stays)
piece_again styles others number (Char ch style) stays h = ap (λ k. char_becomes k ch (number style) stays) h
    ∙ char_again number ch style (keeps styles style) stays
piece_again styles others number (Image w height style) stays h = refl
piece_again styles others number Forced stays h = refl
piece_again styles others number Chance stays h = refl

kind_again : (styles others : List RunStyle) (number : ℕ → ℕ) (piece : Piece) → KeepsToo styles others number piece
    → kind_of others (renumbered number piece) ≡ kind_of styles piece
kind_again styles others number (Char ch style) h = ap (λ k. kind_of_char k ch) h
kind_again styles others number (Image w height style) h = refl
kind_again styles others number Forced h = refl
kind_again styles others number Chance h = refl

precedes_again : (styles others : List RunStyle) (number : ℕ → ℕ) (pieces : List Piece)
    → AllByRecursion (KeepsToo styles others number) pieces
    → precedes_content others (map (renumbered number) pieces) ≡ precedes_content styles pieces
precedes_again styles others number [] h = refl
precedes_again styles others number (piece ∷ after) h =
    ap (λ k. content_behind k (precedes_content others (map (renumbered number) after)))
    (kind_again styles others number piece h.0)
    ∙ ap (content_behind (kind_of styles piece)) (precedes_again styles others number after h.1)

collapsed_again : (styles others : List RunStyle) (number : ℕ → ℕ) (follows : Bool) (pieces : List Piece)
    → AllByRecursion (KeepsToo styles others number) pieces
    → collapsed_at others follows (map (renumbered number) pieces) ≡ map (renumbered number) (collapsed_at styles follows pieces)
collapsed_again styles others number follows [] h = refl
collapsed_again styles others number follows (piece ∷ after) h =
    let stays = follows && precedes_content styles after in
    let next = content_or (kind_of styles piece) follows in
    ap (λ p. piece_becomes others (renumbered number piece) (follows && p) ++ collapsed_at others
    (content_or (kind_of others (renumbered number piece)) follows) (map (renumbered number) after))
    (precedes_again styles others number after h.1)
    ∙ ap (λ front. front ++ collapsed_at others (content_or (kind_of others (renumbered number piece)) follows)
    (map (renumbered number) after)) (piece_again styles others number piece stays h.0)
    ∙ ap (λ k. map (renumbered number) (piece_becomes styles piece stays) ++ collapsed_at others (content_or k follows)
    (map (renumbered number) after)) (kind_again styles others number piece h.0)
    ∙ ap (λ rest. map (renumbered number) (piece_becomes styles piece stays) ++ rest)
    (collapsed_again styles others number next after h.1)
    ∙ sym (map-append (renumbered number) (piece_becomes styles piece stays) (collapsed_at styles next after))

pub collapses_again : (styles others : List RunStyle) (number : ℕ → ℕ) (pieces : List Piece)
    → All (KeepsToo styles others number) pieces
    → collapsed (record { pieces = map (renumbered number) pieces; styles = others })
    ≡ map (renumbered number) (collapsed (record { pieces = pieces; styles = styles }))
collapses_again styles others number pieces h =
    collapsed_behind_at others [] (map (renumbered number) pieces)
    ∙ collapsed_again styles others number false pieces (recursion_from_All (KeepsToo styles others number) pieces h)
    ∙ ap (map (renumbered number)) (sym (collapsed_behind_at styles [] pieces))
