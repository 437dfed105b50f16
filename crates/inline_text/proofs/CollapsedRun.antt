-- What holds of the collapsed run.
use Rattle.std.proofs.Common.{◌≡◌, ℕ, Bool, true, false, ◌&&◌, ◌==◌, List, [], ◌∷◌, ◌++◌, refl, ap, sym, ◌∙◌, subst, cond}
use Rattle.std.proofs.Common.{replicate, reverse, filter, not, append_assoc}
use Rattle.std.specs.List.{AllByRecursion}
use Rattle.std.proofs.lemmas.Bool.{and_parts, eqb-true}
use Rattle.std.proofs.lemmas.List.{reverse-append, reverse-reverse, append-nil}
use Rattle.std.proofs.lemmas.List.Elements.{filter-append, All-from_recursion, recursion_from_All}
use Rattle.inline_text.specs.declared.content.Piece.{Piece}
use Rattle.inline_text.specs.declared.content.Piece.TheVariants.{Char, Image, Forced, Chance}
use Rattle.inline_text.specs.declared.content.RunStyle.{RunStyle}
use Rattle.inline_text.specs.declared.content.Runs.{Runs}
use Rattle.inline_text.specs.declared.content.Kind.TheVariants.{Space, Content, Break}
use Rattle.inline_text.specs.WhiteSpace.{HasStyle, keeps, is_white, char_becomes, kind_of_char, piece_becomes, kind_of}
use Rattle.inline_text.specs.WhiteSpace.{follows_content, precedes_content, becomes, collapsed_behind, is_no_space}
use Rattle.inline_text.specs.WhiteSpace.{SpacesStandBetween, HasStyles, IsCollapsed, collapsed}
use Rattle.inline_text.proofs.Settled.{Settled, settled, settled_once, by_test}

-- Each style that the collapsed run names is there.

has_both : (P : Piece → Type 0) (xs ys : List Piece) → AllByRecursion P xs → AllByRecursion P ys → AllByRecursion P (xs ++ ys)
has_both P [] ys h k = k
has_both P (x ∷ xs) ys h k = (h.0, has_both P xs ys h.1 k)

piece_has : (styles : List RunStyle) (piece : Piece) (stays : Bool) → HasStyle styles piece
    → AllByRecursion (HasStyle styles) (piece_becomes styles piece stays)
piece_has styles (Char ch style) stays h =
    by_test (keeps styles style) (λ k. AllByRecursion (HasStyle styles) (char_becomes k ch style stays))
    (λ _. by_test (ch == 10) (λ t. AllByRecursion (HasStyle styles)
    (cond t (Forced ∷ []) (cond (ch == 9) (replicate 8 (Char 32 style)) (Char ch style ∷ []))))
    (λ _. (tt, tt))
    (λ _. by_test (ch == 9) (λ t. AllByRecursion (HasStyle styles) (cond t (replicate 8 (Char 32 style)) (Char ch style ∷ [])))
    (λ _. (h, (h, (h, (h, (h, (h, (h, (h, tt)))))))))
    (λ _. (h, tt))))
    (λ _. by_test (is_white ch) (λ t.
    AllByRecursion (HasStyle styles) (cond t (cond stays (Char 32 style ∷ []) []) (Char ch style ∷ [])))
    (λ _. by_test stays (λ s. AllByRecursion (HasStyle styles) (cond s (Char 32 style ∷ []) [])) (λ _. (h, tt)) (λ _. tt))
    (λ _. (h, tt)))
piece_has styles (Image w height style) stays h = (h, tt)
piece_has styles Forced stays h = (tt, tt)
piece_has styles Chance stays h = (tt, tt)

pub collapsed_has : (styles : List RunStyle) (before pieces : List Piece) → AllByRecursion (HasStyle styles) pieces
    → AllByRecursion (HasStyle styles) (collapsed_behind styles before pieces)
collapsed_has styles before [] h = tt
collapsed_has styles before (piece ∷ after) h =
    has_both (HasStyle styles) (becomes styles before piece after) _
    (piece_has styles piece (follows_content styles before && precedes_content styles after) h.0)
    (collapsed_has styles (piece ∷ before) after h.1)

-- What is no white space stays, each once, in order.

char_stands : (styles : List RunStyle) (ch style : ℕ) (keep stays : Bool)
    → filter is_no_space (char_becomes keep ch style stays) ≡ filter is_no_space (Char ch style ∷ [])
char_stands styles ch style true stays =
    by_test (ch == 10) (λ t. filter is_no_space
    (cond t (Forced ∷ []) (cond (ch == 9) (replicate 8 (Char 32 style)) (Char ch style ∷ [])))
    ≡ filter is_no_space (Char ch style ∷ []))
    (λ is10. subst (λ (c : ℕ). [] ≡ filter is_no_space (Char c style ∷ [])) (sym (eqb-true ch 10 is10)) refl)
    (λ _. by_test (ch == 9) (λ t. filter is_no_space (cond t (replicate 8 (Char 32 style)) (Char ch style ∷ []))
    ≡ filter is_no_space (Char ch style ∷ []))
    (λ is9. subst (λ (c : ℕ). [] ≡ filter is_no_space (Char c style ∷ [])) (sym (eqb-true ch 9 is9)) refl)
    (λ _. refl))
char_stands styles ch style false stays =
    by_test (is_white ch) (λ t. filter is_no_space (cond t (cond stays (Char 32 style ∷ []) []) (Char ch style ∷ []))
    ≡ cond (not t) (Char ch style ∷ []) [])
    (λ _. by_test stays (λ s. filter is_no_space (cond s (Char 32 style ∷ []) []) ≡ []) (λ _. refl) (λ _. refl))
    (λ no_white. rw no_white refl)

piece_stands : (styles : List RunStyle) (piece : Piece) (stays : Bool)
    → filter is_no_space (piece_becomes styles piece stays) ≡ filter is_no_space (piece ∷ [])
piece_stands styles (Char ch style) stays = char_stands styles ch style (keeps styles style) stays
piece_stands styles (Image w height style) stays = refl
piece_stands styles Forced stays = refl
piece_stands styles Chance stays = refl

pub collapsed_stands : (styles : List RunStyle) (before pieces : List Piece)
    → filter is_no_space (collapsed_behind styles before pieces) ≡ filter is_no_space pieces
collapsed_stands styles before [] = refl
collapsed_stands styles before (piece ∷ after) =
    let stays = follows_content styles before && precedes_content styles after in
    filter-append is_no_space (becomes styles before piece after) (collapsed_behind styles (piece ∷ before) after)
    ∙ ap (λ front. front ++ filter is_no_space (collapsed_behind styles (piece ∷ before) after)) (piece_stands styles piece stays)
    ∙ ap (λ rest. filter is_no_space (piece ∷ []) ++ rest) (collapsed_stands styles (piece ∷ before) after)
    ∙ sym (filter-append is_no_space (piece ∷ []) after)

-- White space that collapses stands between content alone.

pub reversed_onto : (x : Piece) (front before : List Piece) → reverse front ++ (x ∷ before) ≡ reverse (x ∷ front) ++ before
reversed_onto x front before =
    sym (ap (λ r. r ++ before) (reverse-append (x ∷ []) front) ∙ append_assoc (reverse front) (x ∷ []) before)

settled_at : (styles : List RunStyle) (before front : List Piece) (piece : Piece) (after : List Piece)
    → Settled styles before (front ++ piece ∷ after) → becomes styles (reverse front ++ before) piece after ≡ piece ∷ []
settled_at styles before [] piece after h = h.0
settled_at styles before (x ∷ front) piece after h =
    subst (λ (b : List Piece). becomes styles b piece after ≡ piece ∷ []) (reversed_onto x front before)
    (settled_at styles (x ∷ before) front piece after h.1)

char_between : (styles : List RunStyle) (ch style : ℕ) (keep stays : Bool) → kind_of_char keep ch ≡ Space
    → char_becomes keep ch style stays ≡ Char ch style ∷ [] → stays ≡ true
char_between styles ch style true stays k h =
    absurd (by_test (ch == 10) (λ t. cond t Break Content ≡ Space → ⊥) (λ _ e. cc) (λ _ e. cc) k)
char_between styles ch style false stays k h =
    by_test (is_white ch) (λ t. cond t Space Content ≡ Space
    → cond t (cond stays (Char 32 style ∷ []) []) (Char ch style ∷ []) ≡ Char ch style ∷ [] → stays ≡ true)
    (λ _ _ at. by_test stays (λ s. cond s (Char 32 style ∷ []) [] ≡ Char ch style ∷ [] → s ≡ true) (λ _ _. refl)
    (λ _ e. absurd (cc)) at)
    (λ _ e _. absurd (cc)) k h

space_between : (styles : List RunStyle) (piece : Piece) (stays : Bool) → kind_of styles piece ≡ Space
    → piece_becomes styles piece stays ≡ piece ∷ [] → stays ≡ true
space_between styles (Char ch style) stays k h = char_between styles ch style (keeps styles style) stays k h
space_between styles (Image w height style) stays k h = absurd (cc)
space_between styles Forced stays k h = absurd (cc)
space_between styles Chance stays k h = absurd (cc)

pub spaces_between : (runs : Runs) → Settled runs.styles [] runs.pieces → SpacesStandBetween runs
spaces_between runs h before piece after at is_space =
    let here : Settled runs.styles [] (reverse before ++ piece ∷ after) =
    subst (λ (pieces : List Piece). Settled runs.styles [] pieces) at h in
    let stays : becomes runs.styles before piece after ≡ piece ∷ [] =
    subst (λ (b : List Piece). becomes runs.styles b piece after ≡ piece ∷ []) (append-nil (reverse (reverse before))
    ∙ reverse-reverse before) (settled_at runs.styles [] (reverse before) piece after here) in
    and_parts _ _ (space_between runs.styles piece _ is_space stays)

-- what holds of the collapsed run holds of the answer
of_collapsed : (P : Runs → Type 0) (runs answer : Runs) → answer.pieces ≡ collapsed runs → answer.styles ≡ runs.styles
    → P (record { pieces = collapsed runs; styles = runs.styles }) → P answer
of_collapsed P runs answer same_pieces same_styles h =
    subst (λ (pieces : List Piece). P (record { pieces = pieces; styles = answer.styles })) (sym same_pieces)
    (subst (λ (styles : List RunStyle). P (record { pieces = collapsed runs; styles = styles })) (sym same_styles) h)

pub answer_in_range : (runs answer : Runs) → answer.pieces ≡ collapsed runs → answer.styles ≡ runs.styles → HasStyles runs
    → HasStyles answer
answer_in_range runs answer p s h =
    of_collapsed HasStyles runs answer p s
    (All-from_recursion (HasStyle runs.styles) (collapsed runs)
    (collapsed_has runs.styles [] runs.pieces (recursion_from_All (HasStyle runs.styles) runs.pieces h)))

pub answer_settled : (runs answer : Runs) → answer.pieces ≡ collapsed runs → answer.styles ≡ runs.styles → IsCollapsed answer
answer_settled runs answer p s = of_collapsed IsCollapsed runs answer p s (settled_once runs.styles runs.pieces)

pub answer_spaces : (runs answer : Runs) → answer.pieces ≡ collapsed runs → answer.styles ≡ runs.styles
    → SpacesStandBetween answer
answer_spaces runs answer p s =
    of_collapsed SpacesStandBetween runs answer p s
    (spaces_between (record { pieces = collapsed runs; styles = runs.styles })
    (settled runs.styles [] [] runs.pieces (λ h. h)))

pub answer_others : (runs answer : Runs) → answer.pieces ≡ collapsed runs
    → filter is_no_space answer.pieces ≡ filter is_no_space runs.pieces
answer_others runs answer p = ap (filter is_no_space) p ∙ collapsed_stands runs.styles [] runs.pieces
