-- Where lines of a collapsed run may break (CSS Text 3, section 5). A place of a run is seen between the pieces before it,
-- the nearest first, and the pieces after it.
use Rattle.std.specs.Prelude.{ℕ, Bool, true, false, ◌||◌, ◌&&◌, ◌==◌, not, List, [], ◌∷◌, Option, Some, None, slice_get, take}
use Rattle.std.specs.Prelude.{drop, reverse}
use Rattle.std.specs.Char.{is_ascii_alphabetic}
use Rattle.inline_text.specs.declared.content.Piece.{Piece}
use Rattle.inline_text.specs.declared.content.Piece.TheVariants.{Char, Image, Forced, Chance}
use Rattle.inline_text.specs.declared.content.RunStyle.{RunStyle}
use Rattle.inline_text.specs.declared.content.Runs.{Runs}
use Rattle.inline_text.specs.WhiteSpace.{keeps}

abbrev pub wrapped_by : Option RunStyle → Bool
wrapped_by None = false
wrapped_by (Some style) = style.wrap

abbrev pub hyphenated_by : Option RunStyle → Bool
hyphenated_by None = false
hyphenated_by (Some style) = style.hyphens

abbrev pub wrap_or : List RunStyle → Piece → (beyond : Bool) → Bool
wrap_or styles (Char ch style) beyond = wrapped_by (slice_get styles style)
wrap_or styles (Image w h style) beyond = wrapped_by (slice_get styles style)
wrap_or styles Forced beyond = beyond
wrap_or styles Chance beyond = beyond

-- whether the style of the nearest character or image before a place allows wrapping
abbrev pub may_wrap : List RunStyle → (before : List Piece) → Bool
may_wrap styles [] = false
may_wrap styles (piece ∷ before) = wrap_or styles piece (may_wrap styles before)

-- a space of a style that doesn't keep its white space
abbrev pub is_collapsed_space : List RunStyle → Piece → Bool
is_collapsed_space styles (Char ch style) = ch == 32 && not (keeps styles style)
is_collapsed_space styles (Image w h style) = false
is_collapsed_space styles Forced = false
is_collapsed_space styles Chance = false

abbrev pub letter_or : Piece → (beyond : Bool) → Bool
letter_or (Char ch style) beyond = is_ascii_alphabetic ch
letter_or (Image w h style) beyond = false
letter_or Forced beyond = false
letter_or Chance beyond = beyond

-- whether the nearest piece, each `wbr` looked through, is an ASCII letter
abbrev pub begins_with_letter : List Piece → Bool
begins_with_letter [] = false
begins_with_letter (piece ∷ pieces) = letter_or piece (begins_with_letter pieces)

abbrev pub is_image : Piece → Bool
is_image (Char ch style) = false
is_image (Image w h style) = true
is_image Forced = false
is_image Chance = false

-- whether the first piece is an image
abbrev pub begins_with_image : List Piece → Bool
begins_with_image [] = false
begins_with_image (piece ∷ pieces) = is_image piece

-- a soft hyphen (U+00AD) of a style that lets it be a break opportunity
abbrev pub is_soft_hyphen : List RunStyle → Piece → Bool
is_soft_hyphen styles (Char ch style) = ch == 0xad && hyphenated_by (slice_get styles style)
is_soft_hyphen styles (Image w h style) = false
is_soft_hyphen styles Forced = false
is_soft_hyphen styles Chance = false

-- whether a piece that stands directly before a place makes it an opportunity: a collapsed space, U+200B, a soft hyphen,
-- `-` between two letters, an image or a `wbr`
abbrev pub lets_break : List RunStyle → Piece → (between_letters : Bool) → Bool
lets_break styles (Char ch style) between_letters =
    is_collapsed_space styles (Char ch style) || ch == 0x200b || is_soft_hyphen styles (Char ch style)
    || (ch == 45 && between_letters)
lets_break styles (Image w h style) between_letters = true
lets_break styles Forced between_letters = false
lets_break styles Chance between_letters = true

-- whether a place is a break opportunity: where the style before it allows wrapping, after such a piece or before an
-- image
abbrev pub is_opportunity : List RunStyle → (before after : List Piece) → Bool
is_opportunity styles [] after = false
is_opportunity styles (piece ∷ before) after =
    may_wrap styles (piece ∷ before)
    && (lets_break styles piece (begins_with_letter before && begins_with_letter after) || begins_with_image after)

-- whether the place before piece `place` of a run, counted from 0, is an opportunity
abbrev pub opportunity_at : Runs → (place : ℕ) → Bool
opportunity_at runs place = is_opportunity runs.styles (reverse (take place runs.pieces)) (drop place runs.pieces)

-- for each of these pieces, after the pieces `before`: whether the place directly after it is an opportunity
abbrev pub opportunities_behind : List RunStyle → (before pieces : List Piece) → List Bool
opportunities_behind styles before [] = []
opportunities_behind styles before (piece ∷ after) =
    is_opportunity styles (piece ∷ before) after ∷ opportunities_behind styles (piece ∷ before) after
