-- What a command comes to: its result, or why it stops. What is said of all commands is said once; a command adds which inputs it
-- reads, what its result is and what it refuses.
use Rattle.std.specs.Prelude.{◌≡◌, ℕ, ◌<◌, ◌≤◌, ◌⊎◌, List, Option, None, Some}
use Rattle.std.specs.Io.KnownBytes.{Appends}
use Rattle.doc_gen.specs.Document.{document}
use Rattle.mc_base.specs.Outside.{HasRisen, AppendsPart}
use Rattle.mc_base.specs.declared.refusal.Input.TheVariants.{Document, Sheet, Metrics, Flow}
use Rattle.mc_base.specs.declared.refusal.LimitName.TheVariants.{Paragraphs}
use Rattle.mc_base.specs.declared.refusal.Refusal.{Refusal}
use Rattle.mc_base.specs.declared.refusal.Refusal.TheVariants.{Limit, NoMemory}
use Rattle.mc_run.specs.declared.stop.Stop.{Stop}
use Rattle.mc_run.specs.declared.stop.Stop.TheVariants.{Usage, Read, Write, Refused}
use Rattle.mc_run.specs.AllResult.{IsAllResult, RefusesAll}
use Rattle.mc_run.specs.Trial.{IsTrial, RefusesTrial}
use Rattle.mc_run.specs.FlowResult.{IsFlowResult, RefusesBytes, IsPageView, RefusesPageView}
use Rattle.result_writer.specs.Printed.{result_text}
use Rattle.page_views.specs.Views.{hit_text, draw_text}
use Rattle.mc_run.specs.Inputs.{Contents, reads, inputs_of, AreHeld, AreTold, AreShort, IsTooLong, HasFault}
use Rattle.mc_words.specs.Words.{Command, rows, gen, trial, layout, all, hit, draw, check, rows_check}

-- ---- each command

-- the result of a command whose inputs hold this is this text
abbrev pub Yields : Command → Contents → List ℕ → Type 0
Yields (rows flow) contents text = IsFlowResult (contents Flow) text
Yields (gen start count) contents text = (count ≤ 5000) × (text ≡ document start count)
Yields (trial start count) contents text = IsTrial start count text
Yields (layout page) contents text =
    IsPageView result_text (contents Document) (contents Sheet) (contents Metrics) page.width page.height text
Yields (all page) contents text =
    IsAllResult (contents Document) (contents Sheet) (contents Metrics) page.width page.height text
Yields (hit page x y) contents text =
    IsPageView (hit_text x y) (contents Document) (contents Sheet) (contents Metrics) page.width page.height text
Yields (draw page rule) contents text =
    IsPageView (draw_text rule) (contents Document) (contents Sheet) (contents Metrics) page.width page.height text
Yields (check page printed) contents text = ⊥
Yields (rows_check flow printed) contents text = ⊥

-- a command whose inputs hold this, none of them too long, is refused for this reason
abbrev pub Denies : Command → Contents → Refusal → Type 0
Denies (rows flow) contents refusal = RefusesBytes (contents Flow) refusal
Denies (gen start count) contents refusal = (5000 < count) × (refusal ≡ Limit Paragraphs 5001 5000)
Denies (trial start count) contents refusal = RefusesTrial start count refusal
Denies (layout page) contents refusal =
    RefusesPageView result_text (contents Document) (contents Sheet) (contents Metrics) page.width page.height refusal
Denies (all page) contents refusal =
    RefusesAll (contents Document) (contents Sheet) (contents Metrics) page.width page.height refusal
Denies (hit page x y) contents refusal =
    RefusesPageView (hit_text x y) (contents Document) (contents Sheet) (contents Metrics) page.width page.height refusal
Denies (draw page rule) contents refusal =
    RefusesPageView (draw_text rule) (contents Document) (contents Sheet) (contents Metrics) page.width page.height refusal
Denies (check page printed) contents refusal = ⊥
Denies (rows_check flow printed) contents refusal = ⊥

-- ---- all commands

-- a command whose inputs hold this has this text as its result
abbrev pub HasResult : Command → Contents → List ℕ → Type 0
HasResult command contents text = AreShort contents (reads command) × Yields command contents text

-- a command whose inputs hold this is refused for this reason
abbrev pub IsRefused : Command → Contents → Refusal → Type 0
IsRefused command contents refusal = IsTooLong contents (reads command) refusal
    ⊎ (AreShort contents (reads command) × Denies command contents refusal)

-- the words are taken, and this is true of the command with what its inputs hold
abbrev pub OfCommand : Option Command → (List ℕ → Option (List ℕ)) → (Command → Contents → Type 0) → Type 0
OfCommand None held P = ⊥
OfCommand (Some command) held P = (contents : Contents) × AreHeld held contents (reads command) × P command contents

-- the same where the files tell what the inputs hold
abbrev pub OfCommandTold : Option Command → (List ℕ → Option (List ℕ)) → (Command → Contents → Type 0) → Type 0
OfCommandTold None held P = ⊥
OfCommandTold (Some command) held P = (contents : Contents) × AreTold held contents (reads command) × P command contents

-- this text is the result of a command
abbrev pub Gives : Option Command → (List ℕ → Option (List ℕ)) → List ℕ → Type 0
Gives command held text = OfCommand command held (λ c contents. HasResult c contents text)

-- a command is refused for this reason
abbrev pub Refuses : Option Command → (List ℕ → Option (List ℕ)) → Refusal → Type 0
Refuses command held refusal = OfCommand command held (λ c contents. IsRefused c contents refusal)

-- the inputs of a command are told, and it is refused for this reason
abbrev pub RefusesTold : Option Command → (List ℕ → Option (List ℕ)) → Refusal → Type 0
RefusesTold command held refusal = OfCommandTold command held (λ c contents. IsRefused c contents refusal)

-- the inputs of a command are told, and it has a result
abbrev pub Accepts : Option Command → (List ℕ → Option (List ℕ)) → Type 0
Accepts command held = OfCommandTold command held (λ c contents. (text : List ℕ) × HasResult c contents text)

-- Why a command stopped: the words aren't taken; the count of faults of the input that is named rose; the count of faults
-- of the sink rose; the command is refused, or memory ran out.
abbrev pub IsCause : Option Command → (List ℕ → Option (List ℕ)) → (List ℕ → ℕ) → (List ℕ → ℕ) → ℕ → ℕ → Stop → Type 0
IsCause command held before now out_before out_now Usage = command ≡ None
IsCause command held before now out_before out_now (Read input) = HasFault before now (inputs_of command) input
IsCause command held before now out_before out_now Write = HasRisen out_before out_now
IsCause command held before now out_before out_now (Refused refusal) = (refusal ≡ NoMemory) ⊎ Refuses command held refusal

-- the sink got the whole result of a command, or a first part of it
abbrev pub GetsResult : Option Command → (List ℕ → Option (List ℕ)) → Option (List ℕ) → Option (List ℕ) → Type 0
GetsResult command held old new = (text : List ℕ) × Gives command held text × Appends old new text

abbrev pub GetsPart : Option Command → (List ℕ → Option (List ℕ)) → Option (List ℕ) → Option (List ℕ) → Type 0
GetsPart command held old new = (text : List ℕ) × Gives command held text × AppendsPart old new text
