-- What an answer says of the text.
use Rattle.std.proofs.Common.{◌≡◌, ℕ, List, Bool, true, false, cond, ltb, Option, Some, None, Result, Ok, Err, refl, ap, ◌∙◌}
use Rattle.std.proofs.Common.{subst}
use Rattle.std.specs.Prelude.{IfErr, IfOk, IsErrOf}
use Rattle.mc_base.specs.declared.refusal.Refusal.{Refusal}
use Rattle.mc_base.specs.declared.refusal.Refusal.TheVariants as refusals
use Rattle.flow_text.specs.declared.line.Line.{Line}
use Rattle.mc_base.specs.declared.read_error.Fault.{Fault}
use Rattle.flow_text.specs.Text.{IsText, lines_of}
use Rattle.flow_text.specs.Grammar.{FlowFile, IsFlowFile}
use Rattle.mc_base.specs.declared.refusal.LimitName.TheVariants.{Items}
use Rattle.flow_text.specs.Faults.{IsFirstFault}
use Rattle.flow_text.specs.Limits.{limit_passed, first_long, first_wide, is_deep, items, has_crowded_row, no_counts, or_crowded}
use Rattle.flow_text.specs.Limits.{or_many, or_deep, or_wide, or_long}
use Rattle.flow_text.proofs.FaultLaws.{first_fault}
use Rattle.flow_text.proofs.OneFault.{fault_is_told}
use Rattle.flow_text.specs.Answer.{IsAnswer, refusal_of, or_lines, within_limits, faulty, answered, answer_of, IsRead, IsRefused}
use Rattle.flow_text.proofs.Complete.{file_is_read}
use Rattle.flow_text.proofs.Sound.{read_is_file}
use Rattle.flow_text.proofs.TextLaws.{text_again, text_takes}

abbrev pub given : List Line → Result (List Line) Refusal
given lines = Ok lines

pub limits_ok : (o : Option Refusal) (lines got : List Line) → or_lines o lines ≡ given got → (o ≡ None) × (lines ≡ got)
limits_ok None lines got h = (refl, cc)
limits_ok (Some r) lines got h = absurd cc

is_read : (text : List ℕ) (lines : List Line) → answer_of text ≡ given lines → IsRead text lines
is_read text lines h = by_lines (lines_of text) refl h
  where
    by_lines : (r : Result (List Line) Fault) → lines_of text ≡ r → answered r ≡ given lines → IsRead text lines
    by_lines (Err f) is h = absurd cc
    by_lines (Ok ls) is h =
        let l = limits_ok (limit_passed ls) ls lines h in
        let t = text_takes text ls is in
        let f = read_is_file ls t.1 in
        subst (λ (x : List Line). IsRead text x) l.1 (record { file = f.0; spelled = t.0; on_grammar = f.1; within = l.0 })

pub found : (text : List ℕ) (r : Result (List Line) Refusal) → IsAnswer r (answer_of text) → IfOk r (λ lines. IsRead text lines)
found text (Ok lines) h = is_read text lines h
found text (Err e) h = tt

pub only : (text : List ℕ) (r : Result (List Line) Refusal) → IsAnswer r (answer_of text) → (lines : List Line) (file : FlowFile)
    → IsText 0 lines text → IsFlowFile lines file → IsAnswer r (within_limits lines)
only text r h lines file spelled is =
    let e = text_again text lines spelled (file_is_read lines file is) in
    rw e at h

-- a first fault is told
pub told : (text : List ℕ) (r : Result (List Line) Refusal) → IsAnswer r (answer_of text) → (f : Fault) → IsFirstFault text f
    → IsAnswer r (faulty f)
told text r h f first = rw (fault_is_told text f first) at h

-- a refusal by a limit
abbrev pub IsLimit : Refusal → Type 0
IsLimit (refusals.Grammar input offset rule) = ⊥
IsLimit (refusals.Construct input offset name) = ⊥
IsLimit (refusals.Limit name reached limit) = Unit {0}
IsLimit refusals.NoMemory = ⊥

abbrev fault_of : ℕ → ℕ → Fault
fault_of at rule = record { at = at; rule = rule }

abbrev refused : Refusal → Option Refusal
refused r = Some r

some_limit : (r g : Refusal) → IsLimit r → refused r ≡ Some g → IsLimit g
some_limit r g h e = let same : r ≡ g = cc in subst IsLimit same h

many : (n : ℕ) (b : Bool) (g : Refusal) → or_many n (or_crowded b) ≡ Some g → IsLimit g
many n b g h = by_many (ltb 100000 n) b h
  where
    by_many : (c b : Bool) → cond c (refused (refusals.Limit Items 100001 100000)) (or_crowded b) ≡ Some g → IsLimit g
    by_many true b h = some_limit _ g tt h
    by_many false true h = some_limit _ g tt h
    by_many false false h = absurd cc

deep : (d : Bool) (n : ℕ) (b : Bool) (g : Refusal) → or_deep d (or_many n (or_crowded b)) ≡ Some g → IsLimit g
deep true n b g h = some_limit _ g tt h
deep false n b g h = many n b g h

wide : (o : Option ℕ) (d : Bool) (n : ℕ) (b : Bool) (g : Refusal) → or_wide o (or_deep d (or_many n (or_crowded b))) ≡ Some g
    → IsLimit g
wide (Some c) d n b g h = some_limit _ g tt h
wide None d n b g h = deep d n b g h

long : (l o : Option ℕ) (d : Bool) (n : ℕ) (b : Bool) (g : Refusal)
    → or_long l (or_wide o (or_deep d (or_many n (or_crowded b)))) ≡ Some g → IsLimit g
long (Some u) o d n b g h = some_limit _ g tt h
long None o d n b g h = wide o d n b g h

pub passed_limit : (lines : List Line) (g : Refusal) → limit_passed lines ≡ Some g → IsLimit g
unfolding limit_passed
passed_limit lines g h = long (first_long lines) (first_wide lines) (is_deep 0 lines) (items lines)
    (has_crowded_row no_counts lines) g h

abbrev pub denied : Refusal → Result (List Line) Refusal
denied r = Err r

pub denied_is : (a b : Refusal) → denied a ≡ denied b → a ≡ b
denied_is a b h = cc

pub lines_denied : (o : Option Refusal) (lines : List Line) (g : Refusal) → or_lines o lines ≡ denied g → o ≡ Some g
lines_denied None lines g h = absurd cc
lines_denied (Some r) lines g h = ap refused (denied_is r g h)

at_of : Refusal → ℕ
at_of (refusals.Grammar input offset rule) = offset
at_of (refusals.Construct input offset name) = 0
at_of (refusals.Limit name reached limit) = 0
at_of refusals.NoMemory = 0

rule_of : Refusal → ℕ
rule_of (refusals.Grammar input offset rule) = rule.number
rule_of (refusals.Construct input offset name) = 0
rule_of (refusals.Limit name reached limit) = 0
rule_of refusals.NoMemory = 0

same_fault : (f g : Fault) → refusal_of f ≡ refusal_of g → f ≡ g
unfolding at_of rule_of
same_fault f g h =
    let at = ap at_of h in
    let rule = ap rule_of h in
    ap (λ (n : ℕ). fault_of n f.rule) at ∙ ap (λ (n : ℕ). fault_of g.at n) rule

fault_answered : (text : List ℕ) (g : Fault) → answer_of text ≡ denied (refusal_of g) → IsFirstFault text g
fault_answered text g h = by_lines (lines_of text) refl h
  where
    by_lines : (r : Result (List Line) Fault) → lines_of text ≡ r → answered r ≡ denied (refusal_of g) → IsFirstFault text g
    by_lines (Ok ls) is h = absurd (passed_limit ls (refusal_of g) (lines_denied (limit_passed ls) ls (refusal_of g) h))
    by_lines (Err f) is h = subst (IsFirstFault text) (same_fault f g (denied_is (refusal_of f) (refusal_of g) h))
        (first_fault text f is)

pub first : (text : List ℕ) (r : Result (List Line) Refusal) → IsAnswer r (answer_of text) → (g : Fault)
    → IsErrOf r (refusal_of g) → IsFirstFault text g
first text (Ok lines) h g e = absurd cc
first text (Err refusals.NoMemory) h g e = absurd cc
first text (Err (refusals.Grammar input offset rule)) h g e = fault_answered text g (h ∙ e)
first text (Err (refusals.Construct input offset name)) h g e = absurd cc
first text (Err (refusals.Limit name reached limit)) h g e = absurd cc

-- ---- the reason of a refusal

abbrev given_lines : List Line → Result (List Line) Fault
given_lines lines = Ok lines

abbrev failed_lines : Fault → Result (List Line) Fault
failed_lines fault = Err fault

-- why a text has no answer
data Reason (text : List ℕ) (r : Refusal) : Type 0 where
  by_limit : (lines : List Line) → lines_of text ≡ given_lines lines → limit_passed lines ≡ Some r → Reason text r
  by_fault : (fault : Fault) → lines_of text ≡ failed_lines fault → refusal_of fault ≡ r → Reason text r

reason : (text : List ℕ) (r : Refusal) (read : Result (List Line) Fault) → lines_of text ≡ read → answered read ≡ denied r
    → Reason text r
reason text r (Ok lines) is h = by_limit lines is (lines_denied (limit_passed lines) lines r h)
reason text r (Err fault) is h = by_fault fault is (denied_is (refusal_of fault) r h)

refused_by : (text : List ℕ) (r : Refusal) → Reason text r → IsRefused text r
refused_by text (refusals.Grammar input offset rule) (by_limit lines is limit) =
    absurd (passed_limit lines (refusals.Grammar input offset rule) limit)
refused_by text (refusals.Grammar input offset rule) (by_fault fault is same) = (fault, first_fault text fault is, same)
refused_by text (refusals.Construct input offset name) (by_limit lines is limit) =
    passed_limit lines (refusals.Construct input offset name) limit
refused_by text (refusals.Construct input offset name) (by_fault fault is same) = absurd cc
refused_by text (refusals.Limit name reached limit) (by_limit lines is passed) =
    let takes = text_takes text lines is in
    let file = read_is_file lines takes.1 in
    record { lines = lines; file = file.0; spelled = takes.0; on_grammar = file.1; passed = passed }
refused_by text (refusals.Limit name reached limit) (by_fault fault is same) = absurd cc
refused_by text refusals.NoMemory h = tt

pub refused_for : (text : List ℕ) (r : Result (List Line) Refusal) → IsAnswer r (answer_of text) → IfErr r (IsRefused text)
refused_for text (Ok lines) h = tt
refused_for text (Err refusals.NoMemory) h = tt
refused_for text (Err (refusals.Grammar input offset rule)) h =
    let r = refusals.Grammar input offset rule in refused_by text r (reason text r (lines_of text) refl h)
refused_for text (Err (refusals.Construct input offset name)) h =
    let r = refusals.Construct input offset name in refused_by text r (reason text r (lines_of text) refl h)
refused_for text (Err (refusals.Limit name reached limit)) h =
    let r = refusals.Limit name reached limit in refused_by text r (reason text r (lines_of text) refl h)
