-- What a session comes to, by what was read and what came of it.
use Rattle.std.proofs.Common.{◌≡◌, ◌≢◌, ◌⊎◌, inl, inr, ℕ, ◌≤◌, List, [], Option, None, Some, refl, sym, ◌∙◌, arith}
use Rattle.std.specs.Prelude.{IfSome}
use Rattle.mc_base.specs.declared.refusal.Input.TheVariants.{Document, Sheet, Metrics, Flow, Result, Script}
use Rattle.mc_base.specs.declared.refusal.Input.{Input}
use Rattle.mc_base.specs.declared.refusal.Refusal.{Refusal}
use Rattle.mc_base.specs.declared.refusal.Refusal.TheVariants.{NoMemory}
use Rattle.mc_run.specs.declared.stop.Stop.{Stop}
use Rattle.mc_run.specs.declared.stop.Stop.TheVariants.{Usage, Read, Write, Refused}
use Rattle.mc_run.specs.Inputs.{Contents, NamedInput, IsTooLong, HasFault, OnlyThese, named_texts, byte_limit}
use Rattle.mc_run.specs.Reading.{IsReadCause, IsReadingCause, IsContent}
use Rattle.mc_run.proofs.Reading.{long_bytes, cause_along, content_along}
use Rattle.mc_words.specs.Words.{Session}
use Rattle.script_printer.specs.Answers.{ScriptPrints, RefusesScript}
use Rattle.live_run.specs.Inputs.{reads}
use Rattle.live_run.specs.Outcome.{Gives, IsCause}

-- the bytes of an input that isn't read
any_bytes : (held : Option (List ℕ)) → (bytes : List ℕ) × IfSome held (λ told. bytes ≡ told)
any_bytes None = ([], tt)
any_bytes (Some bytes) = (bytes, refl)

-- the texts of a session
abbrev four : List ℕ → List ℕ → List ℕ → List ℕ → Contents
four document sheet metrics script Document = document
four document sheet metrics script Sheet = sheet
four document sheet metrics script Metrics = metrics
four document sheet metrics script Flow = []
four document sheet metrics script Result = []
four document sheet metrics script Script = script

abbrev first_three : Session → List NamedInput
first_three s = named_texts s.page.document s.page.sheet s.page.metrics

abbrev script_named : Session → NamedInput
script_named s = record { input = Script; name = s.script }

-- ---- an input that isn't read

fault_among : (s : Session) (before between now : List ℕ → ℕ) (input : Input) → ((name : List ℕ) → between name ≤ now name)
    → HasFault before between (first_three s) input → HasFault before now (reads s) input
fault_among s before between now input later (inl h) =
    let rose = h.1 in let low = later s.page.document in inl (h.0, omega (arith, rose, low))
fault_among s before between now input later (inr (inl h)) =
    let rose = h.1 in let low = later s.page.sheet in inr (inl (h.0, omega (arith, rose, low)))
fault_among s before between now input later (inr (inr (inl h))) =
    let rose = h.1 in let low = later s.page.metrics in inr (inr (inl (h.0, omega (arith, rose, low))))
fault_among s before between now input later (inr (inr (inr never))) = absurd never

long_among : (s : Session) (c : Contents) (script : List ℕ) (refusal : Refusal) → IsTooLong c (first_three s) refusal
    → IsTooLong (four (c Document) (c Sheet) (c Metrics) script) (reads s) refusal
long_among s c script refusal (inl h) = inl h
long_among s c script refusal (inr (one, inl h)) = inr (one, inl h)
long_among s c script refusal (inr (one, inr (two, inl h))) = inr (one, inr (two, inl h))
long_among s c script refusal (inr (one, inr (two, inr (three, never)))) = absurd never

-- one of the first three
pub page_unread : (s : Session) (held : List ℕ → Option (List ℕ)) (before now : List ℕ → ℕ) (stop : Stop)
    → IsReadingCause (first_three s) held before now stop → IsCause (Some s) held before now 0 0 stop
page_unread s held before now Usage cause = absurd cause
page_unread s held before now (Read input) cause = fault_among s before now now input (λ name. omega arith) cause
page_unread s held before now Write cause = absurd cause
page_unread s held before now (Refused refusal) (inl none) = inl none
page_unread s held before now (Refused refusal) (inr (c, are, long)) =
    let last = any_bytes (held s.script) in
    inr (
      four (c Document) (c Sheet) (c Metrics) last.0,
      (are.0, (are.1.0, (are.1.1.0, (last.1, tt)))),
      inl (long_among s c last.0 refusal long),
    )

-- these are what the inputs hold
pub record AreContents (s : Session) (held : List ℕ → Option (List ℕ)) (d t m : List ℕ) : Type 0 where
  pub document_is : IsContent (record { input = Document; name = s.page.document }) held d
  pub sheet_is : IsContent (record { input = Sheet; name = s.page.sheet }) held t
  pub metrics_is : IsContent (record { input = Metrics; name = s.page.metrics }) held m

-- the script, after the others
last_unread : (s : Session) (held : List ℕ → Option (List ℕ)) (before now : List ℕ → ℕ) (d t m : List ℕ) (stop : Stop)
    → AreContents s held d t m → IsReadCause (script_named s) held before now stop → IsCause (Some s) held before now 0 0 stop
last_unread s held before now d t m Usage are cause = absurd cause
last_unread s held before now d t m (Read input) are cause = inr (inr (inr (inl cause)))
last_unread s held before now d t m Write are cause = absurd cause
last_unread s held before now d t m (Refused refusal) are (inl none) = inl none
last_unread s held before now d t m (Refused refusal) are (inr (is, over)) =
    let last = long_bytes (held s.script) (byte_limit Script) over in
    inr (
      four d t m last.0,
      (are.document_is.1, (are.sheet_is.1, (are.metrics_is.1, (last.1, tt)))),
      inl (inr (are.document_is.0, inr (are.sheet_is.0, inr (are.metrics_is.0, inl (last.2, is))))),
    )

pub script_unread : (s : Session) (held held' : List ℕ → Option (List ℕ)) (before between now : List ℕ → ℕ) (d t m : List ℕ)
    (stop : Stop) → AreContents s held d t m → ((name : List ℕ) → held' name ≡ held name)
    → ((name : List ℕ) → before name ≤ between name) → IsReadCause (script_named s) held' between now stop
    → IsCause (Some s) held before now 0 0 stop
script_unread s held held' before between now d t m stop are same low cause =
    last_unread s held before now d t m stop are
    (cause_along (script_named s) held held' before between now stop (same s.script) (low s.script) cause)

pub script_content : (s : Session) (held held' : List ℕ → Option (List ℕ)) (bytes : List ℕ)
    → ((name : List ℕ) → held' name ≡ held name) → IsContent (script_named s) held' bytes
    → IsContent (script_named s) held bytes
script_content s held held' bytes same content = content_along (script_named s) held held' bytes (same s.script) content

-- ---- other names

pub page_alone : (s : Session) (before now : List ℕ → ℕ) → OnlyThese before now (first_three s) → OnlyThese before now (reads s)
page_alone s before now first name apart = first name (apart.0, (apart.1.0, (apart.1.1.0, tt)))

pub all_alone : (s : Session) (before between now : List ℕ → ℕ) → OnlyThese before between (first_three s)
    → ((name : List ℕ) → name ≢ s.script → now name ≡ between name) → OnlyThese before now (reads s)
all_alone s before between now first last name apart =
    last name (λ same. apart.1.1.1.0 (sym same)) ∙ page_alone s before between first name apart

-- ---- all are read

pub session_result : (s : Session) (held : List ℕ → Option (List ℕ)) (d t m l text : List ℕ) → AreContents s held d t m
    → IsContent (script_named s) held l → ScriptPrints d t m l s.page.width s.page.height text → Gives (Some s) held text
session_result s held d t m l text are last is = (
  four d t m l,
  (are.document_is.1, (are.sheet_is.1, (are.metrics_is.1, (last.1, tt)))),
  ((are.document_is.0, (are.sheet_is.0, (are.metrics_is.0, (last.0, tt)))), is),
)

pub session_refused : (s : Session) (held : List ℕ → Option (List ℕ)) (before now : List ℕ → ℕ) (d t m l : List ℕ)
    (refusal : Refusal) → AreContents s held d t m → IsContent (script_named s) held l
    → (refusal ≡ NoMemory) ⊎ RefusesScript d t m l s.page.width s.page.height refusal
    → IsCause (Some s) held before now 0 0 (Refused refusal)
session_refused s held before now d t m l refusal are last (inl none) = inl none
session_refused s held before now d t m l refusal are last (inr refused) =
    inr (
      four d t m l,
      (are.document_is.1, (are.sheet_is.1, (are.metrics_is.1, (last.1, tt)))),
      inr ((are.document_is.0, (are.sheet_is.0, (are.metrics_is.0, (last.0, tt)))), refused),
    )

-- words that aren't taken print nothing
pub none_given : (session : Option Session) (held : List ℕ → Option (List ℕ)) (text : List ℕ) → session ≡ None
    → Gives session held text → ⊥
none_given None held text none given = given
none_given (Some s) held text none given = absurd cc
