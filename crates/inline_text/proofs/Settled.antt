-- A collapsed run is as it is after collapsing.
use Rattle.std.proofs.Common.{◌≡◌, ℕ, Bool, true, false, ◌&&◌, ◌==◌, List, [], ◌∷◌, ◌++◌, refl, ap, ◌∙◌, cond, replicate, zero}
use Rattle.std.proofs.Common.{suc}
use Rattle.std.proofs.lemmas.Bool.{and_parts}
use Rattle.inline_text.specs.declared.content.Piece.{Piece}
use Rattle.inline_text.specs.declared.content.Piece.TheVariants.{Char, Image, Forced, Chance}
use Rattle.inline_text.specs.declared.content.RunStyle.{RunStyle}
use Rattle.inline_text.specs.declared.content.Kind.TheVariants.{Space, Content, Break}
use Rattle.inline_text.specs.WhiteSpace.{keeps, is_white, char_becomes, kind_of_char, piece_becomes, kind_of, content_behind}
use Rattle.inline_text.specs.WhiteSpace.{follows_content, precedes_content, becomes, collapsed_behind}

-- each of these pieces stays as it is, after the pieces `before`
abbrev pub Settled : List RunStyle → (before pieces : List Piece) → Type 0
Settled styles before [] = Unit {0}
Settled styles before (piece ∷ after) = (becomes styles before piece after ≡ piece ∷ []) × Settled styles (piece ∷ before) after

pub collapsed-settled : (styles : List RunStyle) (before pieces : List Piece) → Settled styles before pieces
    → collapsed_behind styles before pieces ≡ pieces
collapsed-settled styles before [] h = refl
collapsed-settled styles before (piece ∷ after) h =
    ap (λ front. front ++ collapsed_behind styles (piece ∷ before) after) h.0
    ∙ ap (λ rest. piece ∷ rest) (collapsed-settled styles (piece ∷ before) after h.1)

-- a test that is true or false, with what it is
pub by_test : (b : Bool) (P : Bool → Type 0) → (b ≡ true → P true) → (b ≡ false → P false) → P b
by_test b P yes_ no_ = elim b as (λ v. (v ≡ true → P true) → (v ≡ false → P false) → P v)
    [ true ↦ λ f g. f refl | false ↦ λ f g. g refl ] yes_ no_

char_precedes : (styles : List RunStyle) (ch style : ℕ) (stays : Bool) (rest : List Piece) (keep : Bool)
    → keeps styles style ≡ keep → precedes_content styles (char_becomes keep ch style stays ++ rest)
    ≡ content_behind (kind_of_char keep ch) (precedes_content styles rest)
char_precedes styles ch style stays rest true e =
    by_test (ch == 10) (λ t. precedes_content styles
    (cond t (Forced ∷ []) (cond (ch == 9) (replicate 8 (Char 32 style)) (Char ch style ∷ [])) ++ rest)
    ≡ content_behind (cond t Break Content) (precedes_content styles rest))
    (λ _. refl)
    (λ no10. by_test (ch == 9) (λ t. precedes_content styles (cond t (replicate 8 (Char 32 style)) (Char ch style ∷ []) ++ rest)
    ≡ true) (λ _. rw e refl) (λ _. rw (e, no10) refl))
char_precedes styles ch style stays rest false e =
    by_test (is_white ch) (λ t. precedes_content styles (cond t (cond stays (Char 32 style ∷ []) []) (Char ch style ∷ []) ++ rest)
    ≡ content_behind (cond t Space Content) (precedes_content styles rest))
    (λ _. by_test stays (λ s. precedes_content styles (cond s (Char 32 style ∷ []) [] ++ rest) ≡ precedes_content styles rest)
    (λ _. rw e refl) (λ _. refl))
    (λ no_white. rw (e, no_white) refl)

piece_precedes : (styles : List RunStyle) (piece : Piece) (stays : Bool) (rest : List Piece)
    → precedes_content styles (piece_becomes styles piece stays ++ rest)
    ≡ content_behind (kind_of styles piece) (precedes_content styles rest)
piece_precedes styles (Char ch style) stays rest = char_precedes styles ch style stays rest (keeps styles style) refl
piece_precedes styles (Image w h style) stays rest = refl
piece_precedes styles Forced stays rest = refl
piece_precedes styles Chance stays rest = refl

-- collapsing changes nothing of whether content follows
pub precedes-collapsed : (styles : List RunStyle) (before pieces : List Piece)
    → precedes_content styles (collapsed_behind styles before pieces) ≡ precedes_content styles pieces
precedes-collapsed styles before [] = refl
precedes-collapsed styles before (piece ∷ after) =
    piece_precedes styles piece (follows_content styles before && precedes_content styles after)
    (collapsed_behind styles (piece ∷ before) after)
    ∙ ap (content_behind (kind_of styles piece)) (precedes-collapsed styles (piece ∷ before) after)

-- where content stands before `before`, it stands before `other` too
abbrev pub FollowsToo : List RunStyle → (before other : List Piece) → Type 0
FollowsToo styles before other = follows_content styles before ≡ true → follows_content styles other ≡ true

-- kept spaces stay as they are
kept_spaces : (styles : List RunStyle) (style : ℕ) (rest : List Piece) → keeps styles style ≡ true
    → ((before : List Piece) → follows_content styles before ≡ true → Settled styles before rest) → (n : ℕ) (before : List Piece)
    → follows_content styles before ≡ true → Settled styles before (replicate n (Char 32 style) ++ rest)
kept_spaces styles style rest e h zero before f = h before f
kept_spaces styles style rest e h (suc n) before f =
    (rw e refl, kept_spaces styles style rest e h n (Char 32 style ∷ before) (rw e refl))

char_settled : (styles : List RunStyle) (ch style : ℕ) (before after other rest : List Piece)
    → precedes_content styles rest ≡ precedes_content styles after → FollowsToo styles before other
    → ((next : List Piece) → FollowsToo styles (Char ch style ∷ before) next → Settled styles next rest)
    → (keep : Bool) → keeps styles style ≡ keep
    → Settled styles other (char_becomes keep ch style (follows_content styles before && precedes_content styles after) ++ rest)
char_settled styles ch style before after other rest same follows settles true e =
    by_test (ch == 10) (λ t. Settled styles other
    (cond t (Forced ∷ []) (cond (ch == 9) (replicate 8 (Char 32 style)) (Char ch style ∷ [])) ++ rest))
    (λ is10. (refl, settles (Forced ∷ other) (rw (e, is10) (λ h. h))))
    (λ no10. by_test (ch == 9) (λ t. Settled styles other (cond t (replicate 8 (Char 32 style)) (Char ch style ∷ []) ++ rest))
    (λ is9. (rw e refl, kept_spaces styles style rest e (λ next f. settles next (λ _. f)) 7 (Char 32 style ∷ other) (rw e refl)))
    (λ no9. (rw (e, no10, no9) refl, settles (Char ch style ∷ other) (rw (e, no10) (λ _. refl)))))
char_settled styles ch style before after other rest same follows settles false e =
    by_test (is_white ch) (λ t. Settled styles other
    (cond t (cond (follows_content styles before && precedes_content styles after) (Char 32 style ∷ []) [])
    (Char ch style ∷ []) ++ rest))
    (λ white. by_test (follows_content styles before && precedes_content styles after)
    (λ s. Settled styles other (cond s (Char 32 style ∷ []) [] ++ rest))
    (λ stays. let both : (follows_content styles before ≡ true) × (precedes_content styles after ≡ true) = and_parts _ _ stays in
    (rw (e, follows both.0, same ∙ both.1) refl, settles (Char 32 style ∷ other) (rw (e, white) (λ h. absurd (cc)))))
    (λ goes. settles other (rw (e, white) (λ h. absurd (cc)))))
    (λ no_white. (rw (e, no_white) refl, settles (Char ch style ∷ other) (rw (e, no_white) (λ _. refl))))

pub settled : (styles : List RunStyle) (before other pieces : List Piece) → FollowsToo styles before other
    → Settled styles other (collapsed_behind styles before pieces)
settled styles before other [] h = tt
settled styles before other (Char ch style ∷ after) h =
    char_settled styles ch style before after other (collapsed_behind styles (Char ch style ∷ before) after)
    (precedes-collapsed styles (Char ch style ∷ before) after) h
    (λ next f. settled styles (Char ch style ∷ before) next after f) (keeps styles style) refl
settled styles before other (Image w height style ∷ after) h =
    (refl, settled styles (Image w height style ∷ before) (Image w height style ∷ other) after (λ _. refl))
settled styles before other (Forced ∷ after) h = (refl, settled styles (Forced ∷ before) (Forced ∷ other) after (λ f. f))
settled styles before other (Chance ∷ after) h = (refl, settled styles (Chance ∷ before) (Chance ∷ other) after h)

pub settled_once : (styles : List RunStyle) (pieces : List Piece)
    → collapsed_behind styles [] (collapsed_behind styles [] pieces) ≡ collapsed_behind styles [] pieces
settled_once styles pieces = collapsed-settled styles [] (collapsed_behind styles [] pieces)
    (settled styles [] [] pieces (λ h. h))
