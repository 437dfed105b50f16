-- What follows of the cause for which a session stopped.
use Rattle.std.proofs.Common.{◌≡◌, ◌≢◌, ◌⊎◌, inl, inr, ℕ, ◌≤◌, List, [], ◌∷◌, Option, refl, ap, subst, arith}
use Rattle.std.proofs.Common.{lit≤}
use Rattle.script_printer.specs.Laws.{OneScriptAnswer}
use Rattle.mc_base.specs.Outside.{HasRisen}
use Rattle.mc_base.specs.declared.refusal.ConstructName.{ConstructName}
use Rattle.mc_base.specs.declared.refusal.Input.{Input}
use Rattle.mc_base.specs.declared.refusal.LimitName.{LimitName}
use Rattle.mc_base.specs.declared.refusal.Refusal.{Refusal}
use Rattle.mc_base.specs.declared.refusal.Refusal.TheVariants.{Grammar, Construct, Limit, NoMemory}
use Rattle.mc_base.specs.declared.refusal.Rule.{Rule}
use Rattle.mc_run.specs.declared.stop.Stop.{Stop}
use Rattle.mc_run.specs.declared.stop.Stop.TheVariants.{Usage, Read, Write, Refused}
use Rattle.mc_run.specs.Stops.{status_of, refusal_status}
use Rattle.mc_words.specs.Words.{Session}
use Rattle.mc_run.specs.Inputs.{NamedInput, HasFault, AreRead}
use Rattle.live_run.specs.Inputs.{inputs_of}
use Rattle.live_run.specs.Outcome.{Gives, Refuses, RefusesTold, Accepts, IsCause}
use Rattle.live_run.proofs.OneReason.{no_result, not_refused, reason_is}

-- the statuses that there are
pub status_at_most : (stop : Stop) → status_of stop ≤ 7
status_at_most Usage = lit≤ tt
status_at_most (Read input) = lit≤ tt
status_at_most Write = lit≤ tt
status_at_most (Refused (Grammar input offset rule)) = lit≤ tt
status_at_most (Refused (Construct input offset name)) = lit≤ tt
status_at_most (Refused (Limit name reached limit)) = lit≤ tt
status_at_most (Refused NoMemory) = lit≤ tt

-- ---- what a status tells

full : (session : Option Session) (held : List ℕ → Option (List ℕ)) (refusal : Refusal) → (refusal ≡ NoMemory → ⊥)
    → (refusal ≡ NoMemory) ⊎ Refuses session held refusal → Refuses session held refusal
full session held refusal apart (inl none) = absurd (apart none)
full session held refusal apart (inr refused) = refused

-- status 2 is that of a fault of an input
pub unread : (session : Option Session) (held : List ℕ → Option (List ℕ)) (before now : List ℕ → ℕ) (ob on : ℕ) (stop : Stop)
    → IsCause session held before now ob on stop → status_of stop ≡ 2
    → (input : Input) × HasFault before now (inputs_of session) input
unread session held before now ob on Usage cause is = absurd (omega arith)
unread session held before now ob on (Read input) cause is = (input, cause)
unread session held before now ob on Write cause is = absurd (omega arith)
unread session held before now ob on (Refused (Grammar input offset rule)) cause is = absurd (omega arith)
unread session held before now ob on (Refused (Construct input offset name)) cause is = absurd (omega arith)
unread session held before now ob on (Refused (Limit name reached limit)) cause is = absurd (omega arith)
unread session held before now ob on (Refused NoMemory) cause is = absurd (omega arith)

-- status 4 is that of a fault of grammar
pub ungrammatical : (session : Option Session) (held : List ℕ → Option (List ℕ)) (before now : List ℕ → ℕ) (ob on : ℕ)
    (stop : Stop) → IsCause session held before now ob on stop → status_of stop ≡ 4
    → (input : Input) × (offset : ℕ) × (rule : Rule) × Refuses session held (Grammar input offset rule)
ungrammatical session held before now ob on Usage cause is = absurd (omega arith)
ungrammatical session held before now ob on (Read input) cause is = absurd (omega arith)
ungrammatical session held before now ob on Write cause is = absurd (omega arith)
ungrammatical session held before now ob on (Refused (Grammar input offset rule)) cause is =
    (input, offset, rule, full session held (Grammar input offset rule) (λ e. cc) cause)
ungrammatical session held before now ob on (Refused (Construct input offset name)) cause is = absurd (omega arith)
ungrammatical session held before now ob on (Refused (Limit name reached limit)) cause is = absurd (omega arith)
ungrammatical session held before now ob on (Refused NoMemory) cause is = absurd (omega arith)

-- status 5 is that of a construct
pub not_laid_out : (session : Option Session) (held : List ℕ → Option (List ℕ)) (before now : List ℕ → ℕ) (ob on : ℕ)
    (stop : Stop) → IsCause session held before now ob on stop → status_of stop ≡ 5
    → (input : Input) × (offset : ℕ) × (name : ConstructName) × Refuses session held (Construct input offset name)
not_laid_out session held before now ob on Usage cause is = absurd (omega arith)
not_laid_out session held before now ob on (Read input) cause is = absurd (omega arith)
not_laid_out session held before now ob on Write cause is = absurd (omega arith)
not_laid_out session held before now ob on (Refused (Grammar input offset rule)) cause is = absurd (omega arith)
not_laid_out session held before now ob on (Refused (Construct input offset name)) cause is =
    (input, offset, name, full session held (Construct input offset name) (λ e. cc) cause)
not_laid_out session held before now ob on (Refused (Limit name reached limit)) cause is = absurd (omega arith)
not_laid_out session held before now ob on (Refused NoMemory) cause is = absurd (omega arith)

-- status 6 is that of a passed limit
pub limited : (session : Option Session) (held : List ℕ → Option (List ℕ)) (before now : List ℕ → ℕ) (ob on : ℕ) (stop : Stop)
    → IsCause session held before now ob on stop → status_of stop ≡ 6
    → (name : LimitName) × (reached : ℕ) × (limit : ℕ) × Refuses session held (Limit name reached limit)
limited session held before now ob on Usage cause is = absurd (omega arith)
limited session held before now ob on (Read input) cause is = absurd (omega arith)
limited session held before now ob on Write cause is = absurd (omega arith)
limited session held before now ob on (Refused (Grammar input offset rule)) cause is = absurd (omega arith)
limited session held before now ob on (Refused (Construct input offset name)) cause is = absurd (omega arith)
limited session held before now ob on (Refused (Limit name reached limit)) cause is =
    (name, reached, limit, full session held (Limit name reached limit) (λ e. cc) cause)
limited session held before now ob on (Refused NoMemory) cause is = absurd (omega arith)

-- ---- completeness

no_fault : (before now : List ℕ → ℕ) (inputs : List NamedInput) (input : Input) → HasFault before now inputs input
    → AreRead before now inputs → ⊥
no_fault before now [] input fault read = fault
no_fault before now (i ∷ inputs) input (inl here) read = let rose = here.1 in let low = read.0 in omega (arith, rose, low)
no_fault before now (i ∷ inputs) input (inr later) read = no_fault before now inputs input later read.1

-- nothing but out of memory stops a session whose inputs are accepted, where no count rose
pub complete : OneScriptAnswer → (session : Option Session) (held : List ℕ → Option (List ℕ)) (before now : List ℕ → ℕ)
    (ob on : ℕ)
    (stop : Stop) → IsCause session held before now ob on stop → Accepts session held → AreRead before now (inputs_of session)
    → (HasRisen ob on → ⊥) → status_of stop ≢ 7 → ⊥
complete law session held before now ob on Usage cause accepts read calm memory = subst (λ c. Accepts c held) cause accepts
complete law session held before now ob on (Read input) cause accepts read calm memory =
    no_fault before now (inputs_of session) input cause read
complete law session held before now ob on Write cause accepts read calm memory = calm cause
complete law session held before now ob on (Refused refusal) cause accepts read calm memory =
    not_refused law session held refusal accepts
    (full session held refusal (λ none. memory (ap refusal_status none)) cause)

-- a session that is refused and whose inputs were read stops for that reason
pub stops_for : OneScriptAnswer → (session : Option Session) (held : List ℕ → Option (List ℕ)) (before now : List ℕ → ℕ)
    (ob on : ℕ)
    (stop : Stop) (b : Refusal)
    → IsCause session held before now ob on stop → (stop ≡ Write → (text : List ℕ) × Gives session held text)
    → RefusesTold session held b → AreRead before now (inputs_of session) → status_of stop ≢ 7 → stop ≡ Refused b
stops_for law session held before now ob on Usage b cause gives told read memory =
    absurd (subst (λ c. RefusesTold c held b) cause told)
stops_for law session held before now ob on (Read input) b cause gives told read memory =
    absurd (no_fault before now (inputs_of session) input cause read)
stops_for law session held before now ob on Write b cause gives told read memory = let given = gives refl
    in absurd (no_result law session held given.0 b given.1 told)
stops_for law session held before now ob on (Refused a) b cause gives told read memory =
    ap (λ (r : Refusal). Refused r)
    (reason_is law session held a b (full session held a (λ none. memory (ap refusal_status none)) cause) told)
