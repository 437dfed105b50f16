-- The steps of a script, or its first fault.
use Rattle.std.specs.Prelude.{◌≡◌, ◌⊎◌, ℕ, nat_lt, List, [], ◌∷◌, length, if◌then◌else◌, Option, Some, None, Result, Ok, Err}
use Rattle.mc_base.specs.declared.read_error.Fault.{Fault}
use Rattle.mc_base.specs.declared.refusal.Refusal.{Refusal}
use Rattle.mc_base.specs.declared.refusal.Refusal.TheVariants as refusals
use Rattle.mc_base.specs.declared.refusal.Input.TheVariants as inputs
use Rattle.mc_base.specs.Reading.{◌>>=◌, fault}
use Rattle.mc_base.specs.SoundText.{sound_len}
use Rattle.edit_script.specs.declared.script.Step.{Step}
use Rattle.edit_script.specs.declared.script.ScriptLine.{ScriptLine}
use Rattle.edit_script.specs.Steps.{step_of}
use Rattle.edit_script.specs.Lines.{Cut, lines_of}

abbrev pub line_or_fault : ℕ → Option Step → Result ScriptLine Fault
line_or_fault at None = fault at 3
line_or_fault at (Some step) = Ok (record { at = at; step = step })

-- what a line says: l2 where it has no end, else l3 where it is of no form
unfoldable pub line_at : Cut → Result ScriptLine Fault
line_at cut = if cut.ended then line_or_fault cut.at (step_of cut.text) else fault cut.at 2

-- what the lines say, or the fault of the first that has one
abbrev pub steps_in : List Cut → Result (List ScriptLine) Fault
steps_in [] = Ok []
steps_in (c ∷ cs) = line_at c >>= λ line. steps_in cs >>= λ lines. Ok (line ∷ lines)

-- what a text says: l1 where it isn't UTF-8 or has U+0000, before all else
unfoldable pub steps_of : List ℕ → Result (List ScriptLine) Fault
steps_of text = if nat_lt (sound_len text) (length text) then fault (sound_len text) 1 else steps_in (lines_of text)

-- a fault as it is reported: the letter is l
abbrev pub refusal_of : Fault → Refusal
refusal_of f = refusals.Grammar inputs.Script f.at (record { letter = 108; number = f.rule })

abbrev pub as_refused : Result (List ScriptLine) Fault → Result (List ScriptLine) Refusal
as_refused (Ok lines) = Ok lines
as_refused (Err f) = Err (refusal_of f)

-- the script of a text, or why it is refused
abbrev pub script_of : List ℕ → Result (List ScriptLine) Refusal
script_of text = as_refused (steps_of text)

-- This is the answer, unless memory ran out.
abbrev pub IsAnswer : Result (List ScriptLine) Refusal → Result (List ScriptLine) Refusal → Type 0
IsAnswer result answer = (result ≡ Err refusals.NoMemory) ⊎ (result ≡ answer)
