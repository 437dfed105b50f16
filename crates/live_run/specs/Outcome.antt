-- What a session of edits comes to: all that it prints, or why it stops.
use Rattle.std.specs.Prelude.{◌≡◌, ◌⊎◌, ℕ, List, Option, None, Some}
use Rattle.std.specs.Io.KnownBytes.{Appends}
use Rattle.mc_base.specs.Outside.{HasRisen, AppendsPart}
use Rattle.mc_base.specs.declared.refusal.Input.TheVariants.{Document, Sheet, Metrics, Script}
use Rattle.mc_base.specs.declared.refusal.Refusal.{Refusal}
use Rattle.mc_base.specs.declared.refusal.Refusal.TheVariants.{NoMemory}
use Rattle.mc_run.specs.declared.stop.Stop.{Stop}
use Rattle.mc_run.specs.declared.stop.Stop.TheVariants.{Usage, Read, Write, Refused}
use Rattle.mc_run.specs.Inputs.{Contents, AreHeld, AreTold, AreShort, IsTooLong, HasFault}
use Rattle.mc_words.specs.Words.{Session}
use Rattle.script_printer.specs.Answers.{ScriptPrints, RefusesScript}
use Rattle.live_run.specs.Inputs.{reads, inputs_of}

-- a session whose inputs hold this prints this text
abbrev pub HasResult : Session → Contents → List ℕ → Type 0
HasResult session contents text = AreShort contents (reads session)
    × ScriptPrints (contents Document) (contents Sheet) (contents Metrics) (contents Script) session.page.width
    session.page.height text

-- it is refused for this reason: an input is too long, or else the first by the order of the rules
abbrev pub IsRefused : Session → Contents → Refusal → Type 0
IsRefused session contents refusal = IsTooLong contents (reads session) refusal
    ⊎ (AreShort contents (reads session)
    × RefusesScript (contents Document) (contents Sheet) (contents Metrics) (contents Script) session.page.width
    session.page.height refusal)

-- the words are taken, and this is true of the session with what its inputs hold
abbrev pub OfSession : Option Session → (List ℕ → Option (List ℕ)) → (Session → Contents → Type 0) → Type 0
OfSession None held P = ⊥
OfSession (Some session) held P = (contents : Contents) × AreHeld held contents (reads session) × P session contents

-- the same where the files tell what the inputs hold
abbrev pub OfSessionTold : Option Session → (List ℕ → Option (List ℕ)) → (Session → Contents → Type 0) → Type 0
OfSessionTold None held P = ⊥
OfSessionTold (Some session) held P = (contents : Contents) × AreTold held contents (reads session) × P session contents

-- a session prints this text
abbrev pub Gives : Option Session → (List ℕ → Option (List ℕ)) → List ℕ → Type 0
Gives session held text = OfSession session held (λ s contents. HasResult s contents text)

-- a session is refused for this reason
abbrev pub Refuses : Option Session → (List ℕ → Option (List ℕ)) → Refusal → Type 0
Refuses session held refusal = OfSession session held (λ s contents. IsRefused s contents refusal)

-- the inputs of a session are told, and it is refused for this reason
abbrev pub RefusesTold : Option Session → (List ℕ → Option (List ℕ)) → Refusal → Type 0
RefusesTold session held refusal = OfSessionTold session held (λ s contents. IsRefused s contents refusal)

-- the inputs of a session are told, and all lines of its script run
abbrev pub Accepts : Option Session → (List ℕ → Option (List ℕ)) → Type 0
Accepts session held = OfSessionTold session held (λ s contents. (text : List ℕ) × HasResult s contents text)

-- Why a session stopped: the words aren't taken; the count of faults of the input that is named rose; the count of faults of the
-- sink rose; the session is refused, or memory ran out.
abbrev pub IsCause : Option Session → (List ℕ → Option (List ℕ)) → (List ℕ → ℕ) → (List ℕ → ℕ) → ℕ → ℕ → Stop → Type 0
IsCause session held before now out_before out_now Usage = session ≡ None
IsCause session held before now out_before out_now (Read input) = HasFault before now (inputs_of session) input
IsCause session held before now out_before out_now Write = HasRisen out_before out_now
IsCause session held before now out_before out_now (Refused refusal) = (refusal ≡ NoMemory) ⊎ Refuses session held refusal

-- the sink got all that a session prints, or a first part of it
abbrev pub GetsResult : Option Session → (List ℕ → Option (List ℕ)) → Option (List ℕ) → Option (List ℕ) → Type 0
GetsResult session held old new = (text : List ℕ) × Gives session held text × Appends old new text

abbrev pub GetsPart : Option Session → (List ℕ → Option (List ℕ)) → Option (List ℕ) → Option (List ℕ) → Type 0
GetsPart session held old new = (text : List ℕ) × Gives session held text × AppendsPart old new text
