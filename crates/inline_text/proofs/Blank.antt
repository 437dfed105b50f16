-- Nothing but `wbr` is left of white space that collapses and `wbr`, and of nothing else.
use Rattle.std.proofs.Common.{◌≡◌, ℕ, Bool, true, false, ◌&&◌, ◌==◌, List, [], ◌∷◌, ◌++◌, refl, sym, ◌∙◌, subst, cond, replicate}
use Rattle.std.proofs.Common.{All}
use Rattle.std.specs.Prelude.{IsTrue, ◌↔◌}
use Rattle.std.specs.List.{AllByRecursion, list_all}
use Rattle.std.proofs.lemmas.Bool.{and_parts}
use Rattle.std.proofs.lemmas.List.Elements.{All-from_recursion, recursion_from_All}
use Rattle.inline_text.specs.declared.content.Piece.{Piece}
use Rattle.inline_text.specs.declared.content.Piece.TheVariants.{Char, Image, Forced, Chance}
use Rattle.inline_text.specs.declared.content.RunStyle.{RunStyle}
use Rattle.inline_text.specs.declared.content.Kind.TheVariants.{Space, Content, Break}
use Rattle.inline_text.specs.WhiteSpace.{keeps, is_white, char_becomes, kind_of_char, piece_becomes, kind_of, content_or}
use Rattle.inline_text.specs.WhiteSpace.{precedes_content, collapsed, is_chance, is_blank_kind, is_blank_piece}
use Rattle.inline_text.proofs.Scan.{collapsed_at, collapsed_behind_at}
use Rattle.inline_text.proofs.Settled.{by_test}

abbrev IsChance : Piece → Type 0
IsChance piece = IsTrue (is_chance piece)

abbrev IsBlank : List RunStyle → Piece → Type 0
IsBlank styles piece = IsTrue (is_blank_piece styles piece)

-- ---- of such pieces nothing but `wbr` is left

char_goes : (styles : List RunStyle) (ch style : ℕ) (after rest : List Piece) (keep : Bool)
    → IsTrue (is_blank_kind (kind_of_char keep ch)) → (AllByRecursion IsChance (collapsed_at styles false after))
    → AllByRecursion IsChance (char_becomes keep ch style false ++ collapsed_at styles (content_or (kind_of_char keep ch) false)
    after)
char_goes styles ch style after rest true blank h =
    absurd (by_test (ch == 10) (λ t. IsTrue (is_blank_kind (cond t Break Content)) → ⊥) (λ _ e. cc) (λ _ e. cc) blank)
char_goes styles ch style after rest false blank h =
    by_test (is_white ch) (λ t. IsTrue (is_blank_kind (cond t Space Content))
    → AllByRecursion IsChance (cond t (cond false (Char 32 style ∷ []) []) (Char ch style ∷ []) ++ collapsed_at styles
    (content_or (cond t Space Content) false) after))
    (λ _ _. h) (λ _ e. absurd (cc)) blank

goes : (styles : List RunStyle) (pieces : List Piece) → AllByRecursion (IsBlank styles) pieces
    → AllByRecursion IsChance (collapsed_at styles false pieces)
goes styles [] h = tt
goes styles (Char ch style ∷ after) h = char_goes styles ch style after [] (keeps styles style) h.0 (goes styles after h.1)
goes styles (Image w height style ∷ after) h = absurd (let e = h.0 in cc)
goes styles (Forced ∷ after) h = absurd (let e = h.0 in cc)
goes styles (Chance ∷ after) h = (refl, goes styles after h.1)

-- ---- and every other piece leaves something else

front : (xs ys : List Piece) → AllByRecursion IsChance (xs ++ ys) → AllByRecursion IsChance xs × AllByRecursion IsChance ys
front [] ys h = (tt, h)
front (x ∷ xs) ys h = let f = front xs ys h.1 in ((h.0, f.0), f.1)

char_blank : (ch style : ℕ) (keep stays : Bool) → AllByRecursion IsChance (char_becomes keep ch style stays)
    → IsTrue (is_blank_kind (kind_of_char keep ch))
char_blank ch style true stays h =
    absurd (by_test (ch == 10) (λ t. AllByRecursion IsChance
    (cond t (Forced ∷ []) (cond (ch == 9) (replicate 8 (Char 32 style)) (Char ch style ∷ []))) → ⊥)
    (λ _ a. let e = a.0 in cc)
    (λ _. by_test (ch == 9) (λ t. AllByRecursion IsChance (cond t (replicate 8 (Char 32 style)) (Char ch style ∷ [])) → ⊥)
    (λ _ a. let e = a.0 in cc) (λ _ a. let e = a.0 in cc)) h)
char_blank ch style false stays h =
    by_test (is_white ch) (λ t. AllByRecursion IsChance (cond t (cond stays (Char 32 style ∷ []) []) (Char ch style ∷ []))
    → IsTrue (is_blank_kind (cond t Space Content)))
    (λ _ _. refl) (λ _ a. absurd (let e = a.0 in cc)) h

piece_blank : (styles : List RunStyle) (piece : Piece) (stays : Bool)
    → AllByRecursion IsChance (piece_becomes styles piece stays) → IsBlank styles piece
piece_blank styles (Char ch style) stays h = char_blank ch style (keeps styles style) stays h
piece_blank styles (Image w height style) stays h = absurd (let e = h.0 in cc)
piece_blank styles Forced stays h = absurd (let e = h.0 in cc)
piece_blank styles Chance stays h = refl

blank : (styles : List RunStyle) (follows : Bool) (pieces : List Piece)
    → AllByRecursion IsChance (collapsed_at styles follows pieces) → AllByRecursion (IsBlank styles) pieces
blank styles follows [] h = tt
blank styles follows (piece ∷ after) h =
    let next = content_or (kind_of styles piece) follows in
    let f = front (piece_becomes styles piece (follows && precedes_content styles after)) (collapsed_at styles next after) h in
    (piece_blank styles piece _ f.0, blank styles next after f.1)

-- ---- the test

all_true : (p : Piece → Bool) (pieces : List Piece) → list_all p pieces ≡ true → AllByRecursion (λ piece. IsTrue (p piece)) pieces
all_true p [] h = tt
all_true p (piece ∷ pieces) h = let a = and_parts (p piece) (list_all p pieces) h in (a.0, all_true p pieces a.1)

true_all : (p : Piece → Bool) (pieces : List Piece) → AllByRecursion (λ piece. IsTrue (p piece)) pieces → list_all p pieces ≡ true
true_all p [] h = refl
true_all p (piece ∷ pieces) h = rw (h.0, true_all p pieces h.1) refl

pub pieces_are : (styles : List RunStyle) (pieces : List Piece) (answer : Bool)
    → answer ≡ list_all (is_blank_piece styles) pieces → IsTrue answer ↔ All (IsBlank styles) pieces
pieces_are styles pieces answer e = (
  λ yes. All-from_recursion (IsBlank styles) pieces (all_true (is_blank_piece styles) pieces (sym e ∙ yes)),
  λ all. e ∙ true_all (is_blank_piece styles) pieces (recursion_from_All (IsBlank styles) pieces all),
)

pub left_are : (styles : List RunStyle) (pieces : List Piece) (answer : Bool)
    → answer ≡ list_all (is_blank_piece styles) pieces
    → IsTrue answer ↔ All IsChance (collapsed (record { pieces = pieces; styles = styles }))
left_are styles pieces answer e =
    let same = collapsed_behind_at styles [] pieces in (
      λ yes. All-from_recursion IsChance _
          (subst (AllByRecursion IsChance) (sym same)
          (goes styles pieces (all_true (is_blank_piece styles) pieces (sym e ∙ yes)))),
      λ all. e ∙ true_all (is_blank_piece styles) pieces
          (blank styles false pieces (subst (AllByRecursion IsChance) same (recursion_from_All IsChance _ all))),
    )
