-- How a run is cut into lines (CSS 2.1, section 9.4.2; CSS Text 3, section 5.1). Places are counted from 0: place k stands
-- before piece k.
use Rattle.std.specs.Prelude.{◌≡◌, ℕ, ◌+◌, ◌-◌, ◌^◌, ◌<◌, ◌≤◌, pos, ◌+ℤ◌, Bool, true, false, IsTrue, ◌||◌, ◌==◌, ◌⊎◌}
use Rattle.std.specs.Prelude.{if◌then◌else◌, List, [], ◌∷◌, ◌++◌, take, drop, length}
use Rattle.std.specs.List.{All, list_any}
use Rattle.font_table.specs.declared.fonts.Face.{Face}
use Rattle.inline_text.specs.declared.content.Piece.{Piece}
use Rattle.inline_text.specs.declared.content.Piece.TheVariants.{Char, Image, Forced, Chance}
use Rattle.inline_text.specs.declared.content.RunStyle.{RunStyle}
use Rattle.inline_text.specs.declared.content.Runs.{Runs}
use Rattle.inline_text.specs.Opportunities.{opportunity_at}
use Rattle.inline_text.specs.WhiteSpace.{HasStyle}
pub use Rattle.inline_text.specs.WhiteSpace.{is_chance}
use Rattle.line_breaker.specs.declared.line.Line.{Line}
use Rattle.line_breaker.specs.Measures.{style_of, width_sum, last_space, last_hyphen, above_of, below_of, greatest_above}
use Rattle.line_breaker.specs.Measures.{greatest_below}

-- a character or an image
abbrev pub is_content : Piece → Bool
is_content (Char ch style) = true
is_content (Image w h style) = true
is_content Forced = false
is_content Chance = false

-- the pieces between two places
abbrev pub part : List Piece → ℕ → ℕ → List Piece
part pieces from to = take (to - from) (drop from pieces)

abbrev pub is_forced : Piece → Bool
is_forced (Char ch style) = false
is_forced (Image w h style) = false
is_forced Forced = true
is_forced Chance = false

-- how many pieces there are through the next forced break, or in all
abbrev pub stretch_len : List Piece → ℕ
stretch_len [] = 0
stretch_len (piece ∷ pieces) = if is_forced piece then 1 else stretch_len pieces + 1

-- where the stretch of a line ends that begins at a place
abbrev pub stretch_end : List Piece → ℕ → ℕ
stretch_end pieces from = from + stretch_len (drop from pieces)

-- a character or an image stands before the next forced break
abbrev pub content_ahead : List Piece → Bool
content_ahead [] = false
content_ahead (piece ∷ pieces) = if is_forced piece then false else (is_content piece || content_ahead pieces)

-- a place of a line's stretch that is an opportunity, with a character or an image before it in the line and another one
-- after it in the stretch
pub record Counts (runs : Runs) (from place : ℕ) : Type 0 where
  pub behind : from < place
  pub before_end : place < stretch_end runs.pieces from
  pub opportunity : IsTrue (opportunity_at runs place)
  pub content_before : IsTrue (list_any is_content (part runs.pieces from place))
  pub content_after : IsTrue (content_ahead (drop place runs.pieces))

-- The width of a line: it leaves out a collapsed space before its end, and counts a hyphen where it ends after a soft
-- hyphen and before its stretch does.
abbrev pub line_width : Runs → List Face → (from to : ℕ) → ℕ
line_width runs faces from to =
    width_sum runs.styles faces (part runs.pieces from to) - last_space runs.styles faces 0 (part runs.pieces from to)
    + (if to == stretch_end runs.pieces from then 0 else last_hyphen runs.styles faces 0 (part runs.pieces from to))

abbrev pub Fits : Runs → List Face → ℕ → (from to : ℕ) → Type 0
Fits runs faces width from to = line_width runs faces from to ≤ width

-- where a line ends that begins at a place
pub data EndsAt (runs : Runs) (faces : List Face) (width from to : ℕ) : Type 0 where
  -- it is its whole stretch, if that fits
  whole : to ≡ stretch_end runs.pieces from → Fits runs faces width from to → EndsAt runs faces width from to
  -- else it ends at the last opportunity that counts and at which it fits
  last_that_fits : (Fits runs faces width from (stretch_end runs.pieces from) → ⊥) → Counts runs from to
      → Fits runs faces width from to
      → ((place : ℕ) → to < place → Counts runs from place → Fits runs faces width from place → ⊥)
      → EndsAt runs faces width from to
  -- else at the first that counts
  first : (Fits runs faces width from (stretch_end runs.pieces from) → ⊥)
      → ((place : ℕ) → Counts runs from place → Fits runs faces width from place → ⊥) → Counts runs from to
      → ((place : ℕ) → place < to → Counts runs from place → ⊥) → EndsAt runs faces width from to
  -- or is its whole stretch where none does
  unbroken : ((place : ℕ) → Counts runs from place → ⊥) → to ≡ stretch_end runs.pieces from → EndsAt runs faces width from to

-- the greatest height above the baseline and the greatest below it, over the block container's own style, the styles of
-- the line's characters, and its images
abbrev pub HasHeight : Runs → List Face → (strut : ℕ) → List Piece → ℕ → Type 0
HasHeight runs faces strut pieces h =
    pos h ≡ greatest_above runs.styles faces (above_of faces (style_of runs.styles strut)) pieces +ℤ greatest_below runs.styles
    faces (below_of faces (style_of runs.styles strut)) pieces

-- a line that begins at a place
pub record IsLine (runs : Runs) (faces : List Face) (width strut from : ℕ) (line : Line) : Type 0 where
  pub begins : line.from ≡ from
  pub ends : EndsAt runs faces width from line.to
  pub is_width : line.w ≡ line_width runs faces from line.to
  pub is_height : HasHeight runs faces strut (part runs.pieces from line.to) line.h

-- The lines from a place on, each after the one before. What has no character, image or forced break makes no line.
abbrev pub AreLines : Runs → List Face → (width strut from : ℕ) → List Line → Type 0
AreLines runs faces width strut from [] = All (λ piece. IsTrue (is_chance piece)) (drop from runs.pieces)
AreLines runs faces width strut from (line ∷ lines) =
    (All (λ piece. IsTrue (is_chance piece)) (drop from runs.pieces) → ⊥) × IsLine runs faces width strut from line
    × AreLines runs faces width strut line.to lines

-- ---- the conditions

abbrev pub IsMeasurable : Piece → Type 0
IsMeasurable (Char ch style) = Unit {0}
IsMeasurable (Image w h style) = (w ≤ 2 ^ 24) × (h ≤ 2 ^ 24)
IsMeasurable Forced = Unit {0}
IsMeasurable Chance = Unit {0}

pub record IsStyle (faces : List Face) (style : RunStyle) : Type 0 where
  pub known : style.face < length faces
  pub size : style.size ≤ 2 ^ 24
  pub line : style.line ≤ 2 ^ 62

-- what a run must have to be cut into lines
pub record CanBreak (runs : Runs) (faces : List Face) (strut : ℕ) : Type 0 where
  pub few : length runs.pieces < 2 ^ 32
  pub styles : All (IsStyle faces) runs.styles
  pub named : All (HasStyle runs.styles) runs.pieces
  pub images : All IsMeasurable runs.pieces
  pub strut_named : strut < length runs.styles

-- ---- laws

-- the pieces of the lines, in order
abbrev pub pieces_of : List Piece → List Line → List Piece
pieces_of pieces [] = []
pieces_of pieces (line ∷ lines) = part pieces line.from line.to ++ pieces_of pieces lines

-- the lines hold the run's pieces, in order, each once; what follows the last line is `wbr` alone
pub record HoldsAll (pieces : List Piece) (lines : List Line) : Type 0 where
  pub rest : List Piece
  pub whole : pieces_of pieces lines ++ rest ≡ pieces
  pub chances : All (λ piece. IsTrue (is_chance piece)) rest

-- a line is no wider than the width, unless no opportunity that counts fits
abbrev pub IsNarrow : Runs → List Face → (width : ℕ) → Line → Type 0
IsNarrow runs faces width line = (line.w ≤ width)
    ⊎ ((place : ℕ) → Counts runs line.from place → Fits runs faces width line.from place → ⊥)
