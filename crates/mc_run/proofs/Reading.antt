-- Reading inputs one after another: the cause of one read is a cause of them all.
use Rattle.std.proofs.Common.{◌≡◌, ◌≢◌, inl, inr, ℕ, ◌+◌, ◌<◌, ◌≤◌, Bool, true, false, List, [], length, Option, None, Some}
use Rattle.std.proofs.Common.{refl, sym, ◌∙◌, subst, arith}
use Rattle.std.specs.Prelude.{IfSome, replicate}
use Rattle.std.specs.Str.{bytes_eq}
use Rattle.std.proofs.lemmas.Bool.Decides.{not_from_Decides}
use Rattle.std.proofs.lemmas.List.{length-replicate}
use Rattle.std.proofs.lemmas.Slice.Eq.{bytes_eq-Decides}
use Rattle.mc_base.specs.declared.refusal.Input.TheVariants.{Document, Sheet, Metrics, Flow, Result, Script}
use Rattle.mc_run.specs.declared.stop.Stop.{Stop}
use Rattle.mc_run.specs.declared.stop.Stop.TheVariants.{Usage, Read, Write, Refused}
use Rattle.mc_run.specs.Inputs.{NamedInput, Contents, OnlyThese, byte_limit, named_texts}
use Rattle.mc_run.specs.Reading.{IsReadCause, IsReadingCause, IsContent}

-- ---- what inputs may hold

some_long : (n : ℕ) → (bytes : List ℕ) × (n < length bytes)
some_long n = let size = length-replicate {A = ℕ} (n + 1) 0 in (replicate (n + 1) 0, omega (arith, size))

-- the bytes of an input that is too long, whether they are told or not
pub long_bytes : (held : Option (List ℕ)) (n : ℕ) → IfSome held (λ bytes. n < length bytes)
    → (bytes : List ℕ) × IfSome held (λ told. bytes ≡ told) × (n < length bytes)
long_bytes None n over = let long = some_long n in (long.0, tt, long.1)
long_bytes (Some bytes) n over = (bytes, refl, over)

-- the bytes of an input that isn't read
any_bytes : (held : Option (List ℕ)) → (bytes : List ℕ) × IfSome held (λ told. bytes ≡ told)
any_bytes None = ([], tt)
any_bytes (Some bytes) = (bytes, refl)

-- a document, a style sheet and a table of metrics
abbrev pub texts : List ℕ → List ℕ → List ℕ → Contents
texts document sheet metrics Document = document
texts document sheet metrics Sheet = sheet
texts document sheet metrics Metrics = metrics
texts document sheet metrics Flow = []
texts document sheet metrics Result = []
texts document sheet metrics Script = []

-- ---- counts of faults

-- a read lowers no count, though the name that was read may be that of another input too
pub counts_rise : (before now : List ℕ → ℕ) (name : List ℕ)
    → ((other : List ℕ) → other ≢ name → now other ≡ before other) → before name ≤ now name
    → (other : List ℕ) → before other ≤ now other
counts_rise before now name others later other = by_test (bytes_eq other name) refl
  where
    by_test : (t : Bool) → bytes_eq other name ≡ t → before other ≤ now other
    by_test true is =
        subst (λ n. before n ≤ now n) (sym ((bytes_eq-Decides other name).0 is)) later
    by_test false is =
        let same = others other (not_from_Decides (bytes_eq other name) (bytes_eq-Decides other name) is) in
        omega (arith, same)

-- ---- the cause of one read

-- the cause of a read after others
pub cause_along : (i : NamedInput) (held held' : List ℕ → Option (List ℕ)) (before before' now : List ℕ → ℕ) (stop : Stop)
    → held' i.name ≡ held i.name → before i.name ≤ before' i.name → IsReadCause i held' before' now stop
    → IsReadCause i held before now stop
cause_along i held held' before before' now Usage same low cause = cause
cause_along i held held' before before' now (Read input) same low cause =
    let rose = cause.1 in (cause.0, omega (arith, low, rose))
cause_along i held held' before before' now Write same low cause = cause
cause_along i held held' before before' now (Refused refusal) same low (inl none) = inl none
cause_along i held held' before before' now (Refused refusal) same low (inr (is, over)) =
    inr (is, subst (λ (h : Option (List ℕ)). IfSome h (λ bytes. byte_limit i.input < length bytes)) same over)

pub content_along : (i : NamedInput) (held held' : List ℕ → Option (List ℕ)) (bytes : List ℕ) → held' i.name ≡ held i.name
    → IsContent i held' bytes → IsContent i held bytes
content_along i held held' bytes same content =
    (content.0, subst (λ (h : Option (List ℕ)). IfSome h (λ told. bytes ≡ told)) same content.1)

-- ---- a document, a style sheet and a table of metrics

pub document_stops : (document sheet metrics : List ℕ) (held : List ℕ → Option (List ℕ)) (before now : List ℕ → ℕ) (stop : Stop)
    → IsReadCause (record { input = Document; name = document }) held before now stop
    → IsReadingCause (named_texts document sheet metrics) held before now stop
document_stops document sheet metrics held before now Usage cause = cause
document_stops document sheet metrics held before now (Read input) cause = inl cause
document_stops document sheet metrics held before now Write cause = cause
document_stops document sheet metrics held before now (Refused refusal) (inl none) = inl none
document_stops document sheet metrics held before now (Refused refusal) (inr (is, over)) =
    let d = long_bytes (held document) (byte_limit Document) over in
    let s = any_bytes (held sheet) in
    let m = any_bytes (held metrics) in
    inr (texts d.0 s.0 m.0, (d.1, (s.1, (m.1, tt))), inl (d.2, is))

pub sheet_stops : (document sheet metrics : List ℕ) (held : List ℕ → Option (List ℕ)) (before now : List ℕ → ℕ) (stop : Stop)
    (bytes : List ℕ) → IsContent (record { input = Document; name = document }) held bytes
    → IsReadCause (record { input = Sheet; name = sheet }) held before now stop
    → IsReadingCause (named_texts document sheet metrics) held before now stop
sheet_stops document sheet metrics held before now Usage bytes first cause = cause
sheet_stops document sheet metrics held before now (Read input) bytes first cause = inr (inl cause)
sheet_stops document sheet metrics held before now Write bytes first cause = cause
sheet_stops document sheet metrics held before now (Refused refusal) bytes first (inl none) = inl none
sheet_stops document sheet metrics held before now (Refused refusal) bytes first (inr (is, over)) =
    let s = long_bytes (held sheet) (byte_limit Sheet) over in
    let m = any_bytes (held metrics) in
    inr (texts bytes s.0 m.0, (first.1, (s.1, (m.1, tt))), inr (first.0, inl (s.2, is)))

pub metrics_stop : (document sheet metrics : List ℕ) (held : List ℕ → Option (List ℕ)) (before now : List ℕ → ℕ) (stop : Stop)
    (bytes rules : List ℕ) → IsContent (record { input = Document; name = document }) held bytes
    → IsContent (record { input = Sheet; name = sheet }) held rules
    → IsReadCause (record { input = Metrics; name = metrics }) held before now stop
    → IsReadingCause (named_texts document sheet metrics) held before now stop
metrics_stop document sheet metrics held before now Usage bytes rules first second cause = cause
metrics_stop document sheet metrics held before now (Read input) bytes rules first second cause = inr (inr (inl cause))
metrics_stop document sheet metrics held before now Write bytes rules first second cause = cause
metrics_stop document sheet metrics held before now (Refused refusal) bytes rules first second (inl none) = inl none
metrics_stop document sheet metrics held before now (Refused refusal) bytes rules first second (inr (is, over)) =
    let m = long_bytes (held metrics) (byte_limit Metrics) over in
    inr (texts bytes rules m.0, (first.1, (second.1, (m.1, tt))), inr (first.0, inr (second.0, inl (m.2, is))))

-- ---- after the reads before it

pub sheet_after : (document sheet metrics : List ℕ) (held held' : List ℕ → Option (List ℕ)) (before between now : List ℕ → ℕ)
    (stop : Stop) (bytes : List ℕ) → IsContent (record { input = Document; name = document }) held bytes
    → held' sheet ≡ held sheet → before sheet ≤ between sheet
    → IsReadCause (record { input = Sheet; name = sheet }) held' between now stop
    → IsReadingCause (named_texts document sheet metrics) held before now stop
sheet_after document sheet metrics held held' before between now stop bytes first same low cause =
    sheet_stops document sheet metrics held before now stop bytes first
    (cause_along (record { input = Sheet; name = sheet }) held held' before between now stop same low cause)

pub metrics_after : (document sheet metrics : List ℕ) (held one two : List ℕ → Option (List ℕ))
    (before first second now : List ℕ → ℕ) (stop : Stop) (bytes rules : List ℕ)
    → IsContent (record { input = Document; name = document }) held bytes
    → IsContent (record { input = Sheet; name = sheet }) one rules
    → ((name : List ℕ) → one name ≡ held name) → ((name : List ℕ) → two name ≡ one name)
    → ((name : List ℕ) → before name ≤ first name) → ((name : List ℕ) → first name ≤ second name)
    → IsReadCause (record { input = Metrics; name = metrics }) two second now stop
    → IsReadingCause (named_texts document sheet metrics) held before now stop
metrics_after document sheet metrics held one two before first second now stop bytes rules is also same again low later cause =
    let at_first = low metrics in
    let at_second = later metrics in
    metrics_stop document sheet metrics held before now stop bytes rules is
    (content_along (record { input = Sheet; name = sheet }) held one rules (same sheet) also)
    (cause_along (record { input = Metrics; name = metrics }) held two before second now stop (again metrics ∙ same metrics)
    (omega (arith, at_first, at_second)) cause)

-- ---- other names

-- only the count of this name may have changed
abbrev OnlyName : List ℕ → (List ℕ → ℕ) → (List ℕ → ℕ) → Type 0
OnlyName name before now = (other : List ℕ) → other ≢ name → now other ≡ before other

pub document_alone : (document sheet metrics : List ℕ) (before now : List ℕ → ℕ) → OnlyName document before now
    → OnlyThese before now (named_texts document sheet metrics)
document_alone document sheet metrics before now first name apart = first name (λ same. apart.0 (sym same))

pub sheet_alone : (document sheet metrics : List ℕ) (before between now : List ℕ → ℕ) → OnlyName document before between
    → OnlyName sheet between now → OnlyThese before now (named_texts document sheet metrics)
sheet_alone document sheet metrics before between now first second name apart =
    second name (λ same. apart.1.0 (sym same)) ∙ first name (λ same. apart.0 (sym same))

pub metrics_alone : (document sheet metrics : List ℕ) (before one two now : List ℕ → ℕ) → OnlyName document before one
    → OnlyName sheet one two → OnlyName metrics two now → OnlyThese before now (named_texts document sheet metrics)
metrics_alone document sheet metrics before one two now first second third name apart =
    third name (λ same. apart.1.1.0 (sym same)) ∙ second name (λ same. apart.1.0 (sym same))
    ∙ first name (λ same. apart.0 (sym same))
