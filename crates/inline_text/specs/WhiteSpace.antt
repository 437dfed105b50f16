-- How white space collapses (CSS 2.1, section 16.6.1): space, tab and line feed, by the style of each character. A piece
-- of a run is seen between the pieces before it, the nearest first, and the pieces after it.
use Rattle.std.specs.Prelude.{ℕ, ◌≡◌, ◌<◌, Bool, true, false, ◌||◌, ◌&&◌, ◌==◌, List, [], ◌∷◌, ◌++◌, length, Option, Some, None}
use Rattle.std.specs.Prelude.{IsTrue, not, replicate, reverse, slice_get, if◌then◌else◌}
use Rattle.std.specs.List.{All}
use Rattle.inline_text.specs.declared.content.Piece.{Piece}
use Rattle.inline_text.specs.declared.content.Piece.TheVariants.{Char, Image, Forced, Chance}
use Rattle.inline_text.specs.declared.content.RunStyle.{RunStyle}
use Rattle.inline_text.specs.declared.content.Runs.{Runs}
use Rattle.inline_text.specs.declared.content.Kind.{Kind}
use Rattle.inline_text.specs.declared.content.Kind.TheVariants.{Space, Content, Break, Through}

-- the style that a piece names is there
abbrev pub HasStyle : List RunStyle → Piece → Type 0
HasStyle styles (Char ch style) = style < length styles
HasStyle styles (Image w h style) = style < length styles
HasStyle styles Forced = Unit {0}
HasStyle styles Chance = Unit {0}

-- the styles that the pieces of a run name are there
abbrev pub HasStyles : Runs → Type 0
HasStyles runs = All (HasStyle runs.styles) runs.pieces

abbrev kept_by : Option RunStyle → Bool
kept_by None = false
kept_by (Some style) = style.keep

-- whether a style keeps its white space
abbrev pub keeps : List RunStyle → ℕ → Bool
keeps styles style = kept_by (slice_get styles style)

-- space, tab and line feed
abbrev pub is_white : ℕ → Bool
is_white ch = ch == 32 || ch == 9 || ch == 10

-- white space that isn't kept is `Space`, a line feed that is kept is a `Break`, every other character is `Content`
abbrev pub kind_of_char : (keep : Bool) (ch : ℕ) → Kind
kind_of_char true ch = if ch == 10 then Break else Content
kind_of_char false ch = if is_white ch then Space else Content

-- an image is content too; a `wbr` is looked through
abbrev pub kind_of : List RunStyle → Piece → Kind
kind_of styles (Char ch style) = kind_of_char (keeps styles style) ch
kind_of styles (Image w h style) = Content
kind_of styles Forced = Break
kind_of styles Chance = Through

abbrev pub content_or : Kind → (beyond : Bool) → Bool
content_or Space beyond = false
content_or Content beyond = true
content_or Break beyond = false
content_or Through beyond = beyond

-- whether the nearest piece before, each `wbr` looked through, is content
abbrev pub follows_content : List RunStyle → (before : List Piece) → Bool
follows_content styles [] = false
follows_content styles (piece ∷ before) = content_or (kind_of styles piece) (follows_content styles before)

abbrev pub content_behind : Kind → (beyond : Bool) → Bool
content_behind Space beyond = beyond
content_behind Content beyond = true
content_behind Break beyond = false
content_behind Through beyond = beyond

-- whether the nearest piece after, each `wbr` and all white space that collapses looked through, is content
abbrev pub precedes_content : List RunStyle → (after : List Piece) → Bool
precedes_content styles [] = false
precedes_content styles (piece ∷ after) = content_behind (kind_of styles piece) (precedes_content styles after)

-- a kept line feed is a forced break, and a kept tab is eight spaces
abbrev pub kept : (ch style : ℕ) → List Piece
kept ch style = if ch == 10 then Forced ∷ [] else if ch == 9 then replicate 8 (Char 32 style) else Char ch style ∷ []

-- white space that collapses is one space where it stands first between content, and nothing elsewhere
abbrev pub collapsed_char : (ch style : ℕ) (stays : Bool) → List Piece
collapsed_char ch style stays = if is_white ch then (if stays then Char 32 style ∷ [] else []) else Char ch style ∷ []

abbrev pub char_becomes : (keep : Bool) (ch style : ℕ) (stays : Bool) → List Piece
char_becomes true ch style stays = kept ch style
char_becomes false ch style stays = collapsed_char ch style stays

-- what a piece becomes, where white space that collapses stays or not
abbrev pub piece_becomes : List RunStyle → Piece → (stays : Bool) → List Piece
piece_becomes styles (Char ch style) stays = char_becomes (keeps styles style) ch style stays
piece_becomes styles (Image w h style) stays = Image w h style ∷ []
piece_becomes styles Forced stays = Forced ∷ []
piece_becomes styles Chance stays = Chance ∷ []

-- what a piece becomes between those before it and those after it: white space that collapses stays where the nearest
-- piece before it is content, and so is the nearest one after it and after further white space that collapses
abbrev pub becomes : List RunStyle → (before : List Piece) → Piece → (after : List Piece) → List Piece
becomes styles before piece after = piece_becomes styles piece (follows_content styles before && precedes_content styles after)

-- what each of these pieces becomes, after the pieces `before`
abbrev pub collapsed_behind : List RunStyle → (before pieces : List Piece) → List Piece
collapsed_behind styles before [] = []
collapsed_behind styles before (piece ∷ after) =
    becomes styles before piece after ++ collapsed_behind styles (piece ∷ before) after

-- the pieces of a run after collapsing
abbrev pub collapsed : Runs → List Piece
collapsed runs = collapsed_behind runs.styles [] runs.pieces

-- the run is as it is after collapsing
abbrev pub IsCollapsed : Runs → Type 0
IsCollapsed runs = collapsed runs ≡ runs.pieces

-- white space that collapses stands between content alone: none after another, and none at the start, at the end or
-- beside a forced break
abbrev pub SpacesStandBetween : Runs → Type 0
SpacesStandBetween runs =
    (before : List Piece) (piece : Piece) (after : List Piece) → runs.pieces ≡ reverse before ++ piece ∷ after
    → kind_of runs.styles piece ≡ Space → IsTrue (follows_content runs.styles before)
    × IsTrue (precedes_content runs.styles after)

-- a character that is no white space, an image or a `wbr`
abbrev pub is_no_space : Piece → Bool
is_no_space (Char ch style) = not (is_white ch)
is_no_space (Image w h style) = true
is_no_space Forced = false
is_no_space Chance = true

-- an image or a forced break
abbrev pub is_mark : Piece → Bool
is_mark (Char ch style) = false
is_mark (Image w h style) = true
is_mark Forced = true
is_mark Chance = false

-- a line feed that is kept is a forced break
abbrev pub mark_of_char : (keep : Bool) (ch : ℕ) → List Piece
mark_of_char true ch = if ch == 10 then Forced ∷ [] else []
mark_of_char false ch = []

abbrev pub mark_of : List RunStyle → Piece → List Piece
mark_of styles (Char ch style) = mark_of_char (keeps styles style) ch
mark_of styles (Image w h style) = Image w h style ∷ []
mark_of styles Forced = Forced ∷ []
mark_of styles Chance = []

-- the images of these pieces and their forced breaks, in order
abbrev pub marks : List RunStyle → List Piece → List Piece
marks styles [] = []
marks styles (piece ∷ pieces) = mark_of styles piece ++ marks styles pieces

abbrev pub is_chance : Piece → Bool
is_chance (Char ch style) = false
is_chance (Image w h style) = false
is_chance Forced = false
is_chance Chance = true

abbrev pub is_blank_kind : Kind → Bool
is_blank_kind Space = true
is_blank_kind Content = false
is_blank_kind Break = false
is_blank_kind Through = true

-- white space that collapses, or a `wbr`
abbrev pub is_blank_piece : List RunStyle → Piece → Bool
is_blank_piece styles piece = is_blank_kind (kind_of styles piece)

-- a piece whose style has another number
abbrev pub renumbered : (ℕ → ℕ) → Piece → Piece
renumbered number (Char ch style) = Char ch (number style)
renumbered number (Image w h style) = Image w h (number style)
renumbered number Forced = Forced
renumbered number Chance = Chance

-- The style that a character has by its new number keeps white space where its own one does.
abbrev pub KeepsToo : List RunStyle → List RunStyle → (ℕ → ℕ) → Piece → Type 0
KeepsToo styles others number (Char ch style) = keeps others (number style) ≡ keeps styles style
KeepsToo styles others number (Image w h style) = Unit {0}
KeepsToo styles others number Forced = Unit {0}
KeepsToo styles others number Chance = Unit {0}
