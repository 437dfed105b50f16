-- What was read of the lines of a text, and what a refusal says of it.
use Rattle.std.proofs.Common.{◌≡◌, ℕ, ◌≤◌, ◌^◌, List, [], ◌∷◌, length, Some, None, Result, Err, refl, sym, ap, ◌∙◌, subst, inl}
use Rattle.std.proofs.Common.{inr, All}
use Rattle.std.specs.Prelude.{◌⊎◌}
use Rattle.std.proofs.lemmas.List.Elements.{All-nil, All-cons}
use Rattle.mc_base.specs.declared.refusal.Refusal.{Refusal}
use Rattle.mc_base.specs.declared.refusal.Refusal.TheVariants as refusals
use Rattle.mc_base.specs.declared.read_error.Fault.{Fault}
use Rattle.flow_text.specs.declared.line.Line.{Line}
use Rattle.flow_text.specs.Answer.{IsAnswer, IsRead, IsRefused, faulty, refusal_of, within_limits}
use Rattle.flow_text.specs.Faults.{IsFirstFault}
use Rattle.flow_text.specs.Grammar.{FlowFile, IsFlowFile}
use Rattle.flow_text.specs.Limits.{limit_passed}
use Rattle.flow_text.specs.Text.{IsText}
use Rattle.flow_text.proofs.AnswerLaws.{denied, denied_is, given, limits_ok, lines_denied}
use Rattle.flow_text.proofs.OneFault.{no_fault_of_file}
use Rattle.flow_list.specs.Data.{FlowsData}
use Rattle.flow_list.specs.Building.{IsLow}
use Rattle.flow_list.specs.FileFlows.{IsFile, RefusesText, flows_of, limit_of}
use Rattle.flow_data.specs.Soundness.{IsSound}
use Rattle.flow_list.proofs.FileLimits.{AreLowLines, line_count, low_lines, passes_none}
use Rattle.flow_list.proofs.FileSound.{file_is_sound}

-- ---- what was read

abbrev IsLowLine : Line → Type 0
IsLowLine line = IsLow line.form

all_low : (lines : List Line) → AreLowLines lines → All IsLowLine lines
all_low [] h = All-nil IsLowLine
all_low (l ∷ lines) h = All-cons IsLowLine l lines h.0.0 (all_low lines h.1)

pub read_low : (text : List ℕ) (lines : List Line) → IsRead text lines → All (λ (line : Line). IsLow line.form) lines
read_low text lines is = let none = passes_none lines is.within
    in all_low lines (low_lines lines 0 text is.spelled none.long none.wide)

pub read_few : (text : List ℕ) (lines : List Line) → IsRead text lines → length lines ≤ length text
read_few text lines is = line_count lines 0 text is.spelled

-- the file that was read
pub read_file : (text : List ℕ) (lines : List Line) → IsRead text lines
    → (file : FlowFile) × IsFile text file × IsFlowFile lines file × (limit_of file ≡ None)
read_file text lines is = (
  is.file,
  record { lines = lines; spelled = is.spelled; on_grammar = is.on_grammar },
  is.on_grammar,
  ap limit_passed (sym is.on_grammar.whole) ∙ is.within,
)

abbrev MakesFlows : List Line → FlowsData → Type 0
MakesFlows lines d = (file : FlowFile) → IsFlowFile lines file → d ≡ flows_of file

pub read_sound : (text : List ℕ) (lines : List Line) (d : FlowsData) → length text ≤ 2 ^ 28 → IsRead text lines
    → MakesFlows lines d → IsSound d
read_sound text lines d few is made =
    let f = read_file text lines is in
    subst IsSound (sym (made f.0 f.2)) (file_is_sound text f.0 few f.1 f.3)

-- what the lines' reader promises of each flow file
abbrev ReadsOnly : List ℕ → Result (List Line) Refusal → Type 0
ReadsOnly text r = (lines : List Line) (file : FlowFile) → IsText 0 lines text → IsFlowFile lines file
    → IsAnswer r (within_limits lines)

pub read_only : (text : List ℕ) (got : List Line) (d : FlowsData) → ReadsOnly text (given got) → MakesFlows got d
    → (file : FlowFile) → IsFile text file → (limit_of file ≡ None) × (d ≡ flows_of file)
read_only text got d only made file is =
    let ok = limits_ok (limit_passed is.lines) is.lines got (only is.lines file is.spelled is.on_grammar) in (
      ap limit_passed (sym is.on_grammar.whole)
          ∙ ok.0,
      made file (subst (λ (lines : List Line). IsFlowFile lines file) ok.1 is.on_grammar),
    )

-- ---- what is refused

denies : (r : Refusal) (lines : List Line) → IsAnswer (denied r) (within_limits lines)
    → (r ≡ refusals.NoMemory) ⊎ (limit_passed lines ≡ Some r)
denies refusals.NoMemory lines h = inl refl
denies (refusals.Grammar input offset rule) lines h =
    inr (lines_denied (limit_passed lines) lines (refusals.Grammar input offset rule) h)
denies (refusals.Construct input offset name) lines h =
    inr (lines_denied (limit_passed lines) lines (refusals.Construct input offset name) h)
denies (refusals.Limit name reached limit) lines h =
    inr (lines_denied (limit_passed lines) lines (refusals.Limit name reached limit) h)

pub refused_only : (text : List ℕ) (r : Refusal) → ReadsOnly text (denied r) → (file : FlowFile) → IsFile text file
    → (r ≡ refusals.NoMemory) ⊎ (limit_of file ≡ Some r)
refused_only text r only file is =
    subst (λ (lines : List Line). (r ≡ refusals.NoMemory) ⊎ (limit_passed lines ≡ Some r)) is.on_grammar.whole
    (denies r is.lines (only is.lines file is.spelled is.on_grammar))

-- the lines' reader gives the reason of the file
pub refuses : (text : List ℕ) (r : Refusal) → IsRefused text r → RefusesText text r
refuses text (refusals.Grammar input offset rule) h = h
refuses text (refusals.Construct input offset name) h = h
refuses text (refusals.Limit name reached limit) h = (
  h.file,
  record { lines = h.lines; spelled = h.spelled; on_grammar = h.on_grammar },
  ap limit_passed (sym h.on_grammar.whole)
      ∙ h.passed,
)
refuses text refusals.NoMemory h = tt

-- ---- the fault that is told

abbrev no_flows : Refusal → Result FlowsData Refusal
no_flows r = Err r

denies_again : (r : Refusal) (f : Fault) → IsAnswer (denied r) (faulty f) → IsAnswer (no_flows r) (no_flows (refusal_of f))
denies_again (refusals.Grammar input offset rule) f h =
    ap no_flows (denied_is (refusal_of f) (refusals.Grammar input offset rule) h)
denies_again (refusals.Construct input offset name) f h =
    ap no_flows (denied_is (refusal_of f) (refusals.Construct input offset name) h)
denies_again (refusals.Limit name reached limit) f h =
    ap no_flows (denied_is (refusal_of f) (refusals.Limit name reached limit) h)
denies_again refusals.NoMemory f h = tt

pub refused_told : (text : List ℕ) (r : Refusal) → ((f : Fault) → IsFirstFault text f → IsAnswer (denied r) (faulty f))
    → (f : Fault) → IsFirstFault text f → IsAnswer (no_flows r) (no_flows (refusal_of f))
refused_told text r told f is = denies_again r f (told f is)

-- a text that is read has no fault
pub read_faultless : (text : List ℕ) (lines : List Line) → IsRead text lines → (f : Fault) → IsFirstFault text f → ⊥
read_faultless text lines read f is = no_fault_of_file text lines read.file f read.spelled read.on_grammar is
