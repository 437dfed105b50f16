-- Which lines are a flow file: the grammar, as the rows that the lines stand for. It is this project's own.
use Rattle.std.specs.Prelude.{◌≡◌, ℕ, suc, ◌<◌, ◌==◌, slice_index, List, [], ◌∷◌, ◌++◌, Bool, true, false, if◌then◌else◌, Option}
use Rattle.std.specs.Prelude.{Some, None}
use Rattle.mc_base.specs.declared.level.Level.{Level}
use Rattle.flow_text.specs.declared.line.Line.{Line}
use Rattle.flow_text.specs.declared.line.Form.{Form}
use Rattle.flow_text.specs.declared.line.Form.TheVariants as forms

-- What is left of a row from a line on. Each line keeps the byte at which it begins.
pub data Rest : Type 0 where
  -- nothing: its end follows
  no_more : Rest
  -- an edge: a margin, a solid amount, a wall, or the start or end of a box
  edge : (line : Line) (rest : Rest) → Rest
  -- a break place
  place : (at : ℕ) (level : Level) (rest : Rest) → Rest
  -- an item: an atom
  atom : (at height : ℕ) (rest : Rest) → Rest
  -- an item: a row of its own, with its end
  row : (at n w step x : ℕ) (content : Rest) (ended : ℕ) (rest : Rest) → Rest

abbrev pub line : ℕ → Form → Line
line at form = record { at = at; form = form }

-- the lines of a rest, and then these
abbrev pub lines_of : Rest → List Line → List Line
lines_of no_more after = after
lines_of (edge l rest) after = l ∷ lines_of rest after
lines_of (place at level rest) after = line at (forms.Break level) ∷ lines_of rest after
lines_of (atom at height rest) after = line at (forms.Atom height) ∷ lines_of rest after
lines_of (row at n w step x content ended rest) after =
    line at (forms.Row n w step x) ∷ lines_of content (line ended forms.Close ∷ lines_of rest after)

-- an end names the innermost open box
abbrev pub ended_box : ℕ → List ℕ → Option (List ℕ)
ended_box number [] = None
ended_box number (b ∷ boxes) = if b == number then Some boxes else None

-- The open boxes of a row after an edge, the innermost first, or None where the edge may not stand: a start stands in a
-- head (before the first item or after a break place), an end in a tail (after an item).
abbrev pub boxes_behind : Form → Bool → List ℕ → Option (List ℕ)
boxes_behind (forms.Margin u) in_tail boxes = Some boxes
boxes_behind (forms.Solid u) in_tail boxes = Some boxes
boxes_behind forms.Wall in_tail boxes = Some boxes
boxes_behind (forms.Start number x w avoid top bottom) true boxes = None
boxes_behind (forms.Start number x w avoid top bottom) false boxes = Some (number ∷ boxes)
boxes_behind (forms.End number) true boxes = ended_box number boxes
boxes_behind (forms.End number) false boxes = None
boxes_behind _ in_tail boxes = None

-- A row may go on so in a tail or a head, with these boxes open: between two items stands exactly one break place, none
-- stands before the first or after the last, and no box is open at the row's end. A row inside a row has an item.
abbrev pub IsRest : Bool → List ℕ → Rest → Type 0
IsRest in_tail boxes no_more = (in_tail ≡ true) × (boxes ≡ [])
IsRest in_tail boxes (edge l rest) = (next : List ℕ) × (boxes_behind l.form in_tail boxes ≡ Some next) × IsRest in_tail next rest
IsRest in_tail boxes (place at level rest) = (in_tail ≡ true) × IsRest false boxes rest
IsRest in_tail boxes (atom at height rest) = (in_tail ≡ false) × IsRest true boxes rest
IsRest in_tail boxes (row at n w step x content ended rest) = (in_tail ≡ false) × IsRest false [] content × IsRest true boxes rest

-- The starts of these lines are numbered from k on.
abbrev pub HasNumber : ℕ → Form → Type 0
HasNumber k (forms.Start number x w avoid top bottom) = number ≡ k
HasNumber k _ = Unit {0}

abbrev pub number_behind : ℕ → Form → ℕ
number_behind k (forms.Start number x w avoid top bottom) = suc k
number_behind k _ = k

abbrev pub Numbered : ℕ → List Line → Type 0
Numbered k [] = Unit {0}
Numbered k (l ∷ lines) = HasNumber k l.form × Numbered (number_behind k l.form) lines

-- A start with an upper amount that isn't 0 is followed at once by that amount.
abbrev pub BeginsSolid : ℕ → List Line → Type 0
BeginsSolid u [] = ⊥
BeginsSolid u (l ∷ lines) = l.form ≡ forms.Solid u

abbrev pub IsFollowed : Form → List Line → Type 0
IsFollowed (forms.Start number x w avoid top bottom) lines = 0 < top → BeginsSolid top lines
IsFollowed _ lines = Unit {0}

abbrev pub StartsCloned : List Line → Type 0
StartsCloned [] = Unit {0}
StartsCloned (l ∷ lines) = IsFollowed l.form lines × StartsCloned lines

-- An end whose box has a lower amount that isn't 0 stands right after that amount. `bottoms` are the lower amounts of
-- the boxes started so far, by number, and `before` is the amount of the line before, where that is a solid amount.
abbrev pub IsPreceded : List ℕ → Option ℕ → Form → Type 0
IsPreceded bottoms before (forms.End number) = 0 < slice_index bottoms number → before ≡ Some (slice_index bottoms number)
IsPreceded bottoms before _ = Unit {0}

abbrev pub bottoms_behind : List ℕ → Form → List ℕ
bottoms_behind bottoms (forms.Start number x w avoid top bottom) = bottoms ++ bottom ∷ []
bottoms_behind bottoms _ = bottoms

abbrev pub solid_of : Form → Option ℕ
solid_of (forms.Solid u) = Some u
solid_of _ = None

abbrev pub EndsCloned : List ℕ → Option ℕ → List Line → Type 0
EndsCloned bottoms before [] = Unit {0}
EndsCloned bottoms before (l ∷ lines) = IsPreceded bottoms before l.form
    × EndsCloned (bottoms_behind bottoms l.form) (solid_of l.form) lines

-- A flow file: its first row, what stands in it, and the bytes at which its first two lines and its last one begin.
pub record FlowFile : Type 0 where
  pub at : ℕ
  pub first_at : ℕ
  pub n : ℕ
  pub w : ℕ
  pub step : ℕ
  pub available : Option ℕ
  pub auto : Bool
  pub content : Option Rest
  pub ended : ℕ

-- the lines of what stands in the first row, and then these
abbrev pub content_lines : Option Rest → List Line → List Line
content_lines None after = after
content_lines (Some rest) after = lines_of rest after

-- the first row may have no line in it
abbrev pub IsContent : Option Rest → Type 0
IsContent None = Unit {0}
IsContent (Some rest) = IsRest false [] rest

abbrev pub file_lines : FlowFile → List Line
file_lines f =
    line f.at forms.Flow ∷ line f.first_at (forms.First f.n f.w f.step f.available f.auto) ∷ content_lines f.content
    (line f.ended forms.Close ∷ [])

-- These lines are this flow file.
pub record IsFlowFile (lines : List Line) (f : FlowFile) : Type 0 where
  pub whole : lines ≡ file_lines f
  pub content : IsContent f.content
  pub numbered : Numbered 0 lines
  pub starts : StartsCloned lines
  pub ends : EndsCloned [] None lines
