-- Which fault of a flow file is the first, told by the grammar: some flow file begins with the lines before it, and none
-- goes on so. The rule that is broken is told by where the line stands.
use Rattle.std.specs.Prelude.{◌≡◌, ℕ, ◌+◌, ◌<◌, nat_lt, slice_index, List, [], ◌∷◌, ◌++◌, length, take, Bool, true, false}
use Rattle.std.specs.Prelude.{if◌then◌else◌, Option, Some, None, MatchBool, ◌⊎◌}
use Rattle.flow_text.specs.declared.line.Line.{Line}
use Rattle.flow_text.specs.declared.line.Form.{Form}
use Rattle.flow_text.specs.declared.line.Form.TheVariants as forms
use Rattle.mc_base.specs.declared.read_error.Fault.{Fault}
use Rattle.flow_text.specs.declared.structure.Due.{Due}
use Rattle.flow_text.specs.Forms.{IsForm}
use Rattle.flow_text.specs.Grammar.{FlowFile, IsFlowFile, line, bottoms_behind}
use Rattle.mc_base.specs.SoundText.{sound_len}
use Rattle.flow_text.specs.Text.{line_len, bad_byte}

abbrev pub fault_at : ℕ → ℕ → Fault
fault_at at rule = record { at = at; rule = rule }

-- Some flow file begins with these lines.
abbrev pub IsFront : List Line → Type 0
IsFront lines = (more : List Line) × (file : FlowFile) × IsFlowFile (lines ++ more) file

-- These lines are a flow file.
abbrev pub IsOver : List Line → Type 0
IsOver lines = (file : FlowFile) × IsFlowFile lines file

abbrev pub is_edge : Form → Bool
is_edge (forms.Margin u) = true
is_edge (forms.Solid u) = true
is_edge forms.Wall = true
is_edge (forms.Start number x w avoid top bottom) = true
is_edge (forms.End number) = true
is_edge _ = false

-- What stands before a line: the last line that is no edge, the first edge after it, the start right before whose upper
-- amount is due, and the lower amounts of the boxes started so far.
pub record Seen : Type 0 where
  pub base : Option Line
  pub first : Option Line
  pub due : Option Due
  pub bottoms : List ℕ

abbrev pub nothing_seen : Seen
nothing_seen = record { base = None; first = None; due = None; bottoms = [] }

abbrev pub or_line : Option Line → Line → Option Line
or_line None l = Some l
or_line (Some k) l = Some k

abbrev pub base_behind : Bool → Option Line → Line → Option Line
base_behind true base l = base
base_behind false base l = Some l

abbrev pub first_behind : Bool → Option Line → Line → Option Line
first_behind true first l = or_line first l
first_behind false first l = None

abbrev pub due_behind : ℕ → Form → Option Due
due_behind at (forms.Start number x w avoid top bottom) = if nat_lt 0 top then Some (record { at = at; top = top }) else None
due_behind at _ = None

abbrev pub seen_behind : Seen → Line → Seen
seen_behind s l = record {
  base = base_behind (is_edge l.form) s.base l;
  first = first_behind (is_edge l.form) s.first l;
  due = due_behind l.at l.form;
  bottoms = bottoms_behind s.bottoms l.form;
}

abbrev pub seen_from : Seen → List Line → Seen
seen_from s [] = s
seen_from s (l ∷ lines) = seen_from (seen_behind s l) lines

abbrev pub seen : List Line → Seen
seen lines = seen_from nothing_seen lines

-- an item stands right before, with edges of its tail
abbrev pub is_item_end : Form → Bool
is_item_end (forms.Atom u) = true
is_item_end forms.Close = true
is_item_end _ = false

-- why a row may not end: it has lines and no item, it has neither and stands in another row, or a break place is its
-- last; else a box is open
abbrev pub end_behind : ℕ → Option Line → Fault
end_behind at None = fault_at at 5
end_behind at (Some e) = fault_at e.at 5

abbrev pub end_fault : Line → Form → Option Line → ℕ → Fault
end_fault base (forms.First n w step available auto) first at = end_behind at first
end_fault base (forms.Row n w step x) first at = fault_at base.at 6
end_fault base (forms.Break level) first at = fault_at base.at 5
end_fault base _ first at = fault_at at 6

-- an end in a tail breaks rule 8 where it could stand after its box's lower amount
abbrev pub EndFault : List Line → List ℕ → ℕ → ℕ → Fault → Type 0
EndFault front bottoms at number f =
    ((f ≡ fault_at at 8) × IsFront
    (front ++ (line at (forms.Solid (slice_index bottoms number)) ∷ line at (forms.End number) ∷ [])))
    ⊎ ((f ≡ fault_at at 6)
    × (IsFront (front ++ (line at (forms.Solid (slice_index bottoms number)) ∷ line at (forms.End number) ∷ [])) → ⊥))

-- what a line in the rows breaks that may not stand after these
abbrev pub RowsFault : List Line → Seen → Line → ℕ → Form → Fault → Type 0
RowsFault front s base at (forms.Start number x w avoid top bottom) f = f ≡ fault_at at (if is_item_end base.form then 5 else 6)
RowsFault front s base at (forms.End number) f =
    MatchBool (is_item_end base.form) (EndFault front s.bottoms at number f) (f ≡ fault_at at 5)
RowsFault front s base at forms.Close f = f ≡ end_fault base base.form s.first at
RowsFault front s base at _ f = f ≡ fault_at at 5

abbrev pub is_flow : Form → Bool
is_flow forms.Flow = true
is_flow _ = false

abbrev pub BaseFault : Option Line → List Line → Seen → Line → Fault → Type 0
BaseFault None front s l f = f ≡ fault_at l.at 3
BaseFault (Some base) front s l f =
    MatchBool (is_flow base.form) (f ≡ fault_at l.at 5)
    ((IsOver front × (f ≡ fault_at l.at 7)) ⊎ ((IsOver front → ⊥) × RowsFault front s base l.at l.form f))

abbrev pub DueFault : Option Due → List Line → Seen → Line → Fault → Type 0
DueFault (Some d) front s l f = f ≡ fault_at d.at 8
DueFault None front s l f = BaseFault s.base front s l f

-- What a line breaks that may not stand after these: a start whose amount is due breaks rule 8 itself; the first line is
-- rule 3; after the last `end` rule 7.
abbrev pub LineFault : List Line → Line → Fault → Type 0
LineFault front l f = DueFault (seen front).due front (seen front) l f

-- These bytes, which begin at an offset, begin with these lines, each with its line feed; what follows them, and where.
abbrev pub Begins : ℕ → List Line → List ℕ → ℕ → List ℕ → Type 0
Begins at [] bytes end rest = (end ≡ at) × (rest ≡ bytes)
Begins at (l ∷ lines) bytes end rest =
    (l.at ≡ at) × (text : List ℕ) × (more : List ℕ) × IsForm l.form text × (bytes ≡ text ++ 10 ∷ more)
    × Begins (at + length text + 1) lines more end rest

-- a text of this size ends after these lines
abbrev pub ending_fault : Option Due → Option Line → ℕ → Fault
ending_fault (Some d) base size = fault_at d.at 8
ending_fault None None size = fault_at 0 3
ending_fault None (Some base) size = fault_at size 7

-- a line that is of no form or lacks its line feed
abbrev pub byte_fault : Option ℕ → Option Line → ℕ → Bool → Fault
byte_fault (Some i) base at ended = fault_at (at + i) 2
byte_fault None base at false = fault_at at 2
byte_fault None None at true = fault_at at 3
byte_fault None (Some base) at true = fault_at at 4

abbrev pub ShapeFault : Option Due → Option Line → ℕ → List ℕ → Bool → Fault → Type 0
ShapeFault (Some d) base at text ended f =
    (IsForm (forms.Solid d.top) text × (f ≡ fault_at at 2)) ⊎ ((IsForm (forms.Solid d.top) text → ⊥) × (f ≡ fault_at d.at 8))
ShapeFault None base at text ended f = f ≡ byte_fault (bad_byte text) base at ended

-- no line with its line feed stands at the front
abbrev pub NoLine : List ℕ → Type 0
NoLine bytes = (form : Form) (text more : List ℕ) → IsForm form text → bytes ≡ text ++ 10 ∷ more → ⊥

-- the text ends here, though no flow file does
abbrev pub IsCutShort : List Line → List ℕ → ℕ → Fault → Type 0
IsCutShort front rest size f = (rest ≡ []) × (IsOver front → ⊥) × (f ≡ ending_fault (seen front).due (seen front).base size)

-- no line stands here
abbrev pub IsMisshapen : List Line → ℕ → List ℕ → Fault → Type 0
IsMisshapen front at rest f =
    (0 < length rest) × NoLine rest
    × ShapeFault (seen front).due (seen front).base at (take (line_len rest) rest) (nat_lt (line_len rest) (length rest)) f

-- a line stands here that no flow file has here
abbrev pub IsMisplaced : List Line → ℕ → List ℕ → Fault → Type 0
IsMisplaced front at rest f =
    (l : Line) × (text : List ℕ) × (more : List ℕ) × (l.at ≡ at) × IsForm l.form text × (rest ≡ text ++ 10 ∷ more)
    × (IsFront (front ++ l ∷ []) → ⊥) × LineFault front l f

-- The first fault of the lines of a text, of this size: some flow file begins with the lines before it.
pub record IsFaultOfLines (text : List ℕ) (f : Fault) : Type 0 where
  pub front : List Line
  pub at : ℕ
  pub rest : List ℕ
  pub begins : Begins 0 front text at rest
  pub goes_on : IsFront front
  pub which : IsCutShort front rest (length text) f ⊎ (IsMisshapen front at rest f ⊎ IsMisplaced front at rest f)

-- The first fault of a text: U+0000 and bad sequences of UTF-8 come before all others.
abbrev pub IsFirstFault : List ℕ → Fault → Type 0
IsFirstFault text f = MatchBool (nat_lt (sound_len text) (length text)) (f ≡ fault_at (sound_len text) 1) (IsFaultOfLines text f)
