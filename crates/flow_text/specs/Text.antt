-- The text of a flow file: its lines with their offsets, and what is read in it.
use Rattle.std.specs.Prelude.{◌≡◌, ℕ, suc, ◌+◌, ◌==◌, nat_lt, List, [], ◌∷◌, ◌++◌, length, Bool, true, false, ◌||◌, if◌then◌else◌}
use Rattle.std.specs.Prelude.{Option, Some, None, Result, Ok, Err}
use Rattle.mc_base.specs.SoundText.{sound_len}
use Rattle.mc_base.specs.Reading.{◌>>=◌, fault}
use Rattle.flow_text.specs.declared.line.Line.{Line}
use Rattle.flow_text.specs.declared.line.Form.{Form}
use Rattle.mc_base.specs.declared.read_error.Fault.{Fault}
use Rattle.flow_text.specs.declared.structure.Reading.{Reading}
use Rattle.flow_text.specs.declared.structure.Reading.TheVariants as readings
use Rattle.flow_text.specs.Forms.{IsForm, form_of}
use Rattle.flow_text.specs.Structure.{unless, take, what_is_due, fault_of_due, fault_of_ending}

-- These bytes, which begin at this offset, are these lines, each with its line feed.
abbrev pub IsText : ℕ → List Line → List ℕ → Type 0
IsText at [] bytes = bytes ≡ []
IsText at (line ∷ lines) bytes =
    (line.at ≡ at) × (text rest : List ℕ) × IsForm line.form text × (bytes ≡ text ++ 10 ∷ rest)
    × IsText (at + length text + 1) lines rest

-- how many bytes stand before the first of this value
abbrev pub len_before : ℕ → List ℕ → ℕ
len_before stop [] = 0
len_before stop (b ∷ bytes) = if b == stop then 0 else suc (len_before stop bytes)

abbrev pub line_len : List ℕ → ℕ
line_len bytes = len_before 10 bytes

-- where the first byte stands that isn't from space to `~`
abbrev pub first_bad : ℕ → List ℕ → Option ℕ
first_bad i [] = None
first_bad i (b ∷ bytes) = if nat_lt b 32 || nat_lt 126 b then Some i else first_bad (suc i) bytes

abbrev pub bad_byte : List ℕ → Option ℕ
bad_byte bytes = first_bad 0 bytes

-- a line as it stands: where it begins, its bytes, and whether a line feed ends it
pub record Cut : Type 0 where
  pub at : ℕ
  pub text : List ℕ
  pub ended : Bool

-- a byte in front of a line
abbrev pub grown : ℕ → ℕ → List Cut → List Cut
grown at b [] = record { at = at; text = b ∷ []; ended = false } ∷ []
grown at b (c ∷ cuts) = record { at = at; text = b ∷ c.text; ended = c.ended } ∷ cuts

-- the lines of bytes that begin at this offset
unfoldable pub cuts : ℕ → List ℕ → List Cut
cuts at [] = []
cuts at (b ∷ bytes) = if b == 10 then (record { at = at; text = []; ended = true } ∷ cuts (at + 1) bytes) else grown at b
    (cuts (at + 1) bytes)

abbrev pub no_form_here : Reading → ℕ → Fault
no_form_here readings.Opening at = record { at = at; rule = 3 }
no_form_here _ at = record { at = at; rule = 4 }

abbrev pub no_byte_bad : Option ℕ → Reading → ℕ → Bool → Fault
no_byte_bad (Some i) r at ended = record { at = at + i; rule = 2 }
no_byte_bad None r at ended = if ended then no_form_here r at else record { at = at; rule = 2 }

abbrev pub or_fault : Option Fault → Fault → Fault
or_fault None f = f
or_fault (Some e) f = e

-- what a line breaks that is of no form
abbrev pub fault_of_no_form : Reading → ℕ → List ℕ → Bool → Fault
fault_of_no_form reading at text ended =
    or_fault (fault_of_due (what_is_due reading) None) (no_byte_bad (bad_byte text) reading at ended)

abbrev pub line_of : Option Form → Reading → ℕ → List ℕ → Bool → Result Line Fault
line_of None reading at text ended = Err (fault_of_no_form reading at text ended)
line_of (Some f) reading at text ended =
    if ended then Ok (record { at = at; form = f }) else unless (fault_of_due (what_is_due reading) (Some f)) (fault at 2)

-- what a line says
abbrev pub line_at : Reading → ℕ → List ℕ → Bool → Result Line Fault
line_at reading at text ended = line_of (form_of text) reading at text ended

pub record Read : Type 0 where
  pub reading : Reading
  pub lines : List Line

-- what is read after these lines
unfoldable pub read_on : Reading → List Line → List Cut → Result Read Fault
read_on reading lines [] = Ok (record { reading = reading; lines = lines })
read_on reading lines (c ∷ cuts) = line_at reading c.at c.text c.ended >>= λ line. take reading line >>= λ next.
    read_on next (lines ++ line ∷ []) cuts

abbrev pub ended_at : ℕ → Read → Result (List Line) Fault
ended_at size r = unless (fault_of_ending r.reading size) (Ok r.lines)

-- the lines of bytes without U+0000 and bad sequences
abbrev pub lines_in : List ℕ → Result (List Line) Fault
lines_in bytes = read_on readings.Opening [] (cuts 0 bytes) >>= ended_at (length bytes)

-- the lines of a text, or its first fault
unfoldable pub lines_of : List ℕ → Result (List Line) Fault
lines_of bytes = if nat_lt (sound_len bytes) (length bytes) then fault (sound_len bytes) 1 else lines_in bytes
