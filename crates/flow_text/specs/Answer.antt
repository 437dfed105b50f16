-- What a text of a flow file is answered.
use Rattle.std.specs.Prelude.{◌≡◌, ℕ, List, Option, Some, None, Result, Ok, Err, ⊤}
use Rattle.mc_base.specs.declared.refusal.Refusal.{Refusal}
use Rattle.mc_base.specs.declared.refusal.Refusal.TheVariants as refusals
use Rattle.mc_base.specs.declared.refusal.Input.TheVariants as inputs
use Rattle.flow_text.specs.declared.line.Line.{Line}
use Rattle.mc_base.specs.declared.read_error.Fault.{Fault}
use Rattle.flow_text.specs.Text.{IsText, lines_of}
use Rattle.flow_text.specs.Faults.{IsFirstFault}
use Rattle.flow_text.specs.Grammar.{FlowFile, IsFlowFile}
use Rattle.flow_text.specs.Limits.{limit_passed}

-- What a call answered is this answer, unless memory ran out.
abbrev pub IsAnswer : {A : Type 0} → Result A Refusal → Result A Refusal → Type 0
IsAnswer (Ok x) answer = answer ≡ Ok x
IsAnswer (Err refusals.NoMemory) answer = Unit {0}
IsAnswer (Err (refusals.Grammar input offset rule)) answer = answer ≡ Err (refusals.Grammar input offset rule)
IsAnswer (Err (refusals.Construct input offset name)) answer = answer ≡ Err (refusals.Construct input offset name)
IsAnswer (Err (refusals.Limit name reached limit)) answer = answer ≡ Err (refusals.Limit name reached limit)

-- the letter w
abbrev pub refusal_of : Fault → Refusal
refusal_of f = refusals.Grammar inputs.Flow f.at (record { letter = 119; number = f.rule })

abbrev pub or_lines : Option Refusal → List Line → Result (List Line) Refusal
or_lines None lines = Ok lines
or_lines (Some r) lines = Err r

abbrev pub within_limits : List Line → Result (List Line) Refusal
within_limits lines = or_lines (limit_passed lines) lines

-- the answer to a text with this first fault
abbrev pub faulty : Fault → Result (List Line) Refusal
faulty f = Err (refusal_of f)

abbrev pub answered : Result (List Line) Fault → Result (List Line) Refusal
answered (Ok lines) = within_limits lines
answered (Err f) = faulty f

-- the lines of a text within its limits, else its first fault or the first limit that it passes
abbrev pub answer_of : List ℕ → Result (List Line) Refusal
answer_of text = answered (lines_of text)

-- These are the lines of the text, and a flow file that passes no limit.
pub record IsRead (text : List ℕ) (lines : List Line) : Type 0 where
  pub file : FlowFile
  pub spelled : IsText 0 lines text
  pub on_grammar : IsFlowFile lines file
  pub within : limit_passed lines ≡ None

-- The lines of the text are a flow file, and this is the first limit that they pass.
pub record IsPastLimit (text : List ℕ) (refusal : Refusal) : Type 0 where
  pub lines : List Line
  pub file : FlowFile
  pub spelled : IsText 0 lines text
  pub on_grammar : IsFlowFile lines file
  pub passed : limit_passed lines ≡ Some refusal

-- The text is refused for this reason: its first fault, or the first limit that a flow file passes; or memory ran out.
abbrev pub IsRefused : List ℕ → Refusal → Type 0
IsRefused text (refusals.Grammar input offset rule) =
    (fault : Fault) × IsFirstFault text fault × (refusal_of fault ≡ refusals.Grammar input offset rule)
IsRefused text (refusals.Construct input offset name) = ⊥
IsRefused text (refusals.Limit name reached limit) = IsPastLimit text (refusals.Limit name reached limit)
IsRefused text refusals.NoMemory = ⊤
