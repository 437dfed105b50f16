-- Bytes are one flow file at most. They are refused for one reason at most, and then they have no result.
use Rattle.std.proofs.Common.{◌≡◌, ◌⊎◌, inl, inr, ℕ, List, None, Some, Result, Ok, Err}
use Rattle.std.proofs.Common.{refl, sym, ◌∙◌, ap, subst}
use Rattle.std.specs.Prelude.{IfErr, MatchResult}
use Rattle.mc_base.specs.declared.refusal.Input.{Input}
use Rattle.mc_base.specs.declared.refusal.LimitName.{LimitName}
use Rattle.mc_base.specs.declared.refusal.Refusal.{Refusal}
use Rattle.mc_base.specs.declared.refusal.Refusal.TheVariants.{Grammar, Construct, Limit, NoMemory}
use Rattle.mc_base.specs.declared.refusal.Rule.{Rule}
use Rattle.mc_base.specs.declared.read_error.Fault.{Fault}
use Rattle.flow_text.specs.declared.line.Line.{Line}
use Rattle.flow_text.specs.Grammar.{FlowFile, IsFlowFile, file_lines}
use Rattle.flow_text.specs.Text.{lines_of}
use Rattle.flow_text.specs.Answer.{refusal_of}
use Rattle.flow_text.proofs.AnswerLaws.{passed_limit}
use Rattle.flow_text.proofs.Complete.{file_is_read}
use Rattle.flow_text.proofs.OneFault.{one_fault}
use Rattle.flow_text.proofs.TextLaws.{text_again}
use Rattle.flow_text.proofs.Unique.{one_file}
use Rattle.flow_list.specs.Data.{FlowsData}
use Rattle.flow_list.specs.FileFlows.{IsFile, RefusesText, flows_of, limit_of}
use Rattle.mc_run.specs.FlowResult.{FlowSays, IsNoFlowFile, IsFlowResult, HasLongResult, RefusesBytes}
use Rattle.result_writer.specs.Printed.{result_text}
use Rattle.mc_run.proofs.Results.{short_or_long}

abbrev read_as : List Line → Result (List Line) Fault
read_as lines = Ok lines

lines_same : (a b : List Line) → read_as a ≡ read_as b → a ≡ b
lines_same a b e = cc

pub file_same : (text : List ℕ) (f g : FlowFile) → IsFile text f → IsFile text g → f ≡ g
file_same text f g a b =
    let first : lines_of text ≡ read_as a.lines = text_again text a.lines a.spelled (file_is_read a.lines f a.on_grammar) in
    let second : lines_of text ≡ read_as b.lines = text_again text b.lines b.spelled (file_is_read b.lines g b.on_grammar) in
    let same : a.lines ≡ b.lines = lines_same a.lines b.lines (sym first ∙ second) in
    one_file a.lines f g a.on_grammar (subst (λ lines. IsFlowFile lines g) (sym same) b.on_grammar)

pub flow_same : (text : List ℕ) (d e : FlowsData) → FlowSays text d → FlowSays text e → d ≡ e
flow_same text d e a b = a.3 ∙ ap flows_of (file_same text a.0 b.0 a.1 b.1) ∙ sym b.3

-- a file that says flows passes no limit
pub no_limit : (text : List ℕ) (d : FlowsData) (file : FlowFile) → FlowSays text d → IsFile text file → limit_of file ≡ None
no_limit text d file says is = subst (λ f. limit_of f ≡ None) (file_same text says.0 file says.1 is) says.2

-- no limit is a fault of grammar
pub limit_apart : (file : FlowFile) (input : Input) (offset : ℕ) (rule : Rule)
    → limit_of file ≡ Some (Grammar input offset rule) → ⊥
limit_apart file input offset rule e = passed_limit (file_lines file) (Grammar input offset rule) e

-- ---- what is refused by the reader

abbrev GivesFlows : List ℕ → Result FlowsData Refusal → Type 0
GivesFlows text result = (file : FlowFile) → IsFile text file
    → MatchResult result (λ flows. (limit_of file ≡ None) × (flows ≡ flows_of file))
    (λ refusal. (refusal ≡ NoMemory) ⊎ (limit_of file ≡ Some refusal))

no_file : (text : List ℕ) (input : Input) (offset : ℕ) (rule : Rule) → GivesFlows text (Err (Grammar input offset rule))
    → IsNoFlowFile text
no_file text input offset rule only file is = go (only file is)
  where
    go : (Grammar input offset rule ≡ NoMemory) ⊎ (limit_of file ≡ Some (Grammar input offset rule)) → ⊥
    go (inl e) = absurd cc
    go (inr e) = limit_apart file input offset rule e

pub reader_refuses : (text : List ℕ) (refusal : Refusal) → GivesFlows text (Err refusal) → RefusesText text refusal
    → (refusal ≡ NoMemory) ⊎ RefusesBytes text refusal
reader_refuses text (Grammar input offset rule) only refused = inr (no_file text input offset rule only, refused)
reader_refuses text (Construct input offset name) only refused = absurd refused
reader_refuses text (Limit name reached limit) only refused = inr (inl refused)
reader_refuses text NoMemory only refused = inl refl

pub reader_result : (text : List ℕ) (result : Result FlowsData Refusal) (refusal : Refusal) → result ≡ Err refusal
    → GivesFlows text result → IfErr result (RefusesText text) → (refusal ≡ NoMemory) ⊎ RefusesBytes text refusal
reader_result text (Ok flows) refusal is only refused = absurd cc
reader_result text (Err e) refusal is only refused =
    let same : e ≡ refusal = cc in
    subst (λ r. (r ≡ NoMemory) ⊎ RefusesBytes text r) same (reader_refuses text e only refused)

-- ---- what is refused since its result is too long

long_refused : (bytes : List ℕ) (refusal : Refusal) → HasLongResult (FlowSays bytes) refusal → RefusesBytes bytes refusal
long_refused bytes (Grammar input offset rule) long = let limit = long.1 in absurd cc
long_refused bytes (Construct input offset name) long = let limit = long.1 in absurd cc
long_refused bytes (Limit name reached limit) long = inr long
long_refused bytes NoMemory long = let limit = long.1 in absurd cc

pub bytes_err : (bytes : List ℕ) (r : Result (List ℕ) Refusal)
    → IfErr r (λ e. (e ≡ NoMemory) ⊎ HasLongResult (FlowSays bytes) e) → IfErr r (λ e. (e ≡ NoMemory) ⊎ RefusesBytes bytes e)
bytes_err bytes (Ok text) is = tt
bytes_err bytes (Err e) (inl none) = inl none
bytes_err bytes (Err e) (inr long) = inr (long_refused bytes e long)

-- ---- one reason

same_limit : (a b : Refusal) (file : FlowFile) → limit_of file ≡ Some a → limit_of file ≡ Some b → a ≡ b
same_limit a b file h k = let same : Some a ≡ Some b = sym h ∙ k in cc

-- a flow file that has flows within its limits is refused by no limit but that of its result
both_limits : (bytes : List ℕ) (name other : LimitName) (reached limit more most : ℕ)
    → RefusesText bytes (Limit name reached limit) ⊎ HasLongResult (FlowSays bytes) (Limit name reached limit)
    → RefusesText bytes (Limit other more most) ⊎ HasLongResult (FlowSays bytes) (Limit other more most)
    → Limit name reached limit ≡ Limit other more most
both_limits bytes name other reached limit more most (inl a) (inl b) =
    same_limit (Limit name reached limit) (Limit other more most) a.0 a.2
    (subst (λ f. limit_of f ≡ Some (Limit other more most)) (file_same bytes b.0 a.0 b.1 a.1) b.2)
both_limits bytes name other reached limit more most (inl a) (inr b) = let none = no_limit bytes b.0.0 a.0 b.0.1 a.1
    in let some = a.2 in absurd cc
both_limits bytes name other reached limit more most (inr a) (inl b) = let none = no_limit bytes a.0.0 b.0 a.0.1 b.1
    in let some = b.2 in absurd cc
both_limits bytes name other reached limit more most (inr a) (inr b) = a.1 ∙ sym b.1

limit_or_fault : (bytes : List ℕ) (name : LimitName) (reached limit : ℕ) → IsNoFlowFile bytes
    → RefusesText bytes (Limit name reached limit) ⊎ HasLongResult (FlowSays bytes) (Limit name reached limit) → ⊥
limit_or_fault bytes name reached limit none (inl b) = none b.0 b.1
limit_or_fault bytes name reached limit none (inr b) = none b.0.1.0 b.0.1.1

pub one_of_bytes : (bytes : List ℕ) (a b : Refusal) → RefusesBytes bytes a → RefusesBytes bytes b → a ≡ b
one_of_bytes bytes (Grammar input offset rule) (Grammar input' offset' rule') h k =
    sym h.1.2 ∙ ap refusal_of (one_fault bytes h.1.0 k.1.0 h.1.1 k.1.1) ∙ k.1.2
one_of_bytes bytes (Grammar input offset rule) (Construct input' offset' name') h k = absurd k
one_of_bytes bytes (Grammar input offset rule) (Limit name' reached' limit') h k =
    absurd (limit_or_fault bytes name' reached' limit' h.0 k)
one_of_bytes bytes (Grammar input offset rule) NoMemory h k = absurd k
one_of_bytes bytes (Construct input offset name) b h k = absurd h
one_of_bytes bytes (Limit name reached limit) (Grammar input' offset' rule') h k =
    absurd (limit_or_fault bytes name reached limit k.0 h)
one_of_bytes bytes (Limit name reached limit) (Construct input' offset' name') h k = absurd k
one_of_bytes bytes (Limit name reached limit) (Limit name' reached' limit') h k =
    both_limits bytes name name' reached limit reached' limit' h k
one_of_bytes bytes (Limit name reached limit) NoMemory h k = absurd k
one_of_bytes bytes NoMemory b h k = absurd h

-- no flow file that has a result is refused
pub result_or_refusal : (bytes text : List ℕ) (refusal : Refusal) → IsFlowResult bytes text → RefusesBytes bytes refusal → ⊥
result_or_refusal bytes text (Grammar input offset rule) (d, says, is, short) refused = refused.0 says.0 says.1
result_or_refusal bytes text (Construct input offset name) (d, says, is, short) refused = refused
result_or_refusal bytes text (Limit name reached limit) (d, says, is, short) (inl refused) =
    let none = no_limit bytes d refused.0 says refused.1 in let some = refused.2 in absurd cc
result_or_refusal bytes text (Limit name reached limit) (d, says, is, short) (inr long) =
    short_or_long result_text (FlowSays bytes) text (Limit name reached limit) (flow_same bytes) (d, says, is, short) long
result_or_refusal bytes text NoMemory (d, says, is, short) refused = refused
