-- What inputs hold and what the files tell of them agree, so what is said of the one holds of the other.
use Rattle.std.proofs.Common.{◌≡◌, ℕ, ◌<◌, ◌≤◌, inl, inr, List, [], ◌∷◌, length, Option, None, Some, ◌∙◌, subst}
use Rattle.std.specs.Prelude.{IfSome}
use Rattle.std.specs.List.{AllByRecursion}
use Rattle.mc_base.specs.declared.refusal.Refusal.{Refusal}
use Rattle.mc_base.specs.declared.refusal.Input.TheVariants.{Document, Sheet, Metrics, Script}
use Rattle.mc_run.specs.Inputs.{NamedInput, Contents, AreHeld, AreTold, AreShort, IsTooLong, byte_limit}
use Rattle.mc_words.specs.Words.{Session}
use Rattle.script_printer.specs.Answers.{ScriptPrints, RefusesScript}
use Rattle.live_run.specs.Inputs.{reads}
use Rattle.live_run.specs.Outcome.{HasResult, IsRefused}

abbrev Agree : Contents → Contents → List NamedInput → Type 0
Agree a b inputs = AllByRecursion (λ i. a i.input ≡ b i.input) inputs

one_agrees : (held : Option (List ℕ)) (a b : List ℕ) → IfSome held (λ told. a ≡ told) → held ≡ Some b → a ≡ b
one_agrees None a b is told = absurd cc
one_agrees (Some c) a b is told = let same : c ≡ b = cc in is ∙ same

pub held_told : (held : List ℕ → Option (List ℕ)) (a b : Contents) (inputs : List NamedInput) → AreHeld held a inputs
    → AreTold held b inputs → Agree a b inputs
held_told held a b [] is told = tt
held_told held a b (i ∷ inputs) is told =
    (one_agrees (held i.name) (a i.input) (b i.input) is.0 told.0, held_told held a b inputs is.1 told.1)

short_along : (a b : Contents) (inputs : List NamedInput) → Agree a b inputs → AreShort a inputs → AreShort b inputs
short_along a b [] same short = tt
short_along a b (i ∷ inputs) same short =
    (subst (λ bytes. length bytes ≤ byte_limit i.input) same.0 short.0, short_along a b inputs same.1 short.1)

long_along : (a b : Contents) (inputs : List NamedInput) (refusal : Refusal) → Agree a b inputs → IsTooLong a inputs refusal
    → IsTooLong b inputs refusal
long_along a b [] refusal same long = long
long_along a b (i ∷ inputs) refusal same (inl here) =
    inl (subst (λ bytes. byte_limit i.input < length bytes) same.0 here.0, here.1)
long_along a b (i ∷ inputs) refusal same (inr later) =
    inr
    (subst (λ bytes. length bytes ≤ byte_limit i.input) same.0 later.0, long_along a b inputs refusal same.1 later.1)

prints_along : (s : Session) (a b : Contents) (text : List ℕ) → Agree a b (reads s)
    → ScriptPrints (a Document) (a Sheet) (a Metrics) (a Script) s.page.width s.page.height text
    → ScriptPrints (b Document) (b Sheet) (b Metrics) (b Script) s.page.width s.page.height text
prints_along s a b text same prints =
    subst (λ bytes. ScriptPrints bytes (b Sheet) (b Metrics) (b Script) s.page.width s.page.height text) same.0
    (subst (λ bytes. ScriptPrints (a Document) bytes (b Metrics) (b Script) s.page.width s.page.height text) same.1.0
    (subst (λ bytes. ScriptPrints (a Document) (a Sheet) bytes (b Script) s.page.width s.page.height text) same.1.1.0
    (subst (λ bytes. ScriptPrints (a Document) (a Sheet) (a Metrics) bytes s.page.width s.page.height text) same.1.1.1.0 prints)))

denies_along : (s : Session) (a b : Contents) (e : Refusal) → Agree a b (reads s)
    → RefusesScript (a Document) (a Sheet) (a Metrics) (a Script) s.page.width s.page.height e
    → RefusesScript (b Document) (b Sheet) (b Metrics) (b Script) s.page.width s.page.height e
denies_along s a b e same denies =
    subst (λ bytes. RefusesScript bytes (b Sheet) (b Metrics) (b Script) s.page.width s.page.height e) same.0
    (subst (λ bytes. RefusesScript (a Document) bytes (b Metrics) (b Script) s.page.width s.page.height e) same.1.0
    (subst (λ bytes. RefusesScript (a Document) (a Sheet) bytes (b Script) s.page.width s.page.height e) same.1.1.0
    (subst (λ bytes. RefusesScript (a Document) (a Sheet) (a Metrics) bytes s.page.width s.page.height e) same.1.1.1.0 denies)))

pub result_along : (s : Session) (a b : Contents) (text : List ℕ) → Agree a b (reads s) → HasResult s a text → HasResult s b text
result_along s a b text same h = (short_along a b (reads s) same h.0, prints_along s a b text same h.1)

pub refused_along : (s : Session) (a b : Contents) (refusal : Refusal) → Agree a b (reads s) → IsRefused s a refusal
    → IsRefused s b refusal
refused_along s a b refusal same (inl long) = inl (long_along a b (reads s) refusal same long)
refused_along s a b refusal same (inr h) = inr (short_along a b (reads s) same h.0, denies_along s a b refusal same h.1)
