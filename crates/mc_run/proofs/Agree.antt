-- What inputs hold and what the files tell of them agree, so what is said of the one holds of the other.
use Rattle.std.proofs.Common.{◌≡◌, ℕ, ◌<◌, ◌≤◌, inl, inr, List, [], ◌∷◌, length, Option, None, Some, ◌∙◌, subst}
use Rattle.std.specs.Prelude.{IfSome}
use Rattle.std.specs.List.{AllByRecursion}
use Rattle.mc_base.specs.declared.refusal.Refusal.{Refusal}
use Rattle.mc_base.specs.declared.refusal.Input.TheVariants.{Document, Sheet, Metrics}
use Rattle.mc_run.specs.AllResult.{IsAllResult, RefusesAll}
use Rattle.mc_run.specs.FlowResult.{IsFlowResult, RefusesBytes, IsPageView, RefusesPageView}
use Rattle.mc_run.specs.Inputs.{NamedInput, page_texts, Contents, reads, AreHeld, AreTold, AreShort, IsTooLong, byte_limit}
use Rattle.mc_run.specs.Outcome.{Yields, Denies, HasResult, IsRefused}
use Rattle.flow_list.specs.Data.{FlowsData}
use Rattle.result_writer.specs.Printed.{result_text}
use Rattle.page_views.specs.Views.{hit_text, draw_text}
use Rattle.mc_words.specs.Words.{Command, Page, rows, gen, trial, layout, all, hit, draw, check, rows_check}

abbrev pub Agree : Contents → Contents → List NamedInput → Type 0
Agree a b inputs = AllByRecursion (λ i. a i.input ≡ b i.input) inputs

one_agrees : (held : Option (List ℕ)) (a b : List ℕ) → IfSome held (λ told. a ≡ told) → held ≡ Some b → a ≡ b
one_agrees None a b is told = absurd cc
one_agrees (Some c) a b is told = let same : c ≡ b = cc in is ∙ same

pub held_told : (held : List ℕ → Option (List ℕ)) (a b : Contents) (inputs : List NamedInput) → AreHeld held a inputs
    → AreTold held b inputs → Agree a b inputs
held_told held a b [] is told = tt
held_told held a b (i ∷ inputs) is told =
    (one_agrees (held i.name) (a i.input) (b i.input) is.0 told.0, held_told held a b inputs is.1 told.1)

short_along : (a b : Contents) (inputs : List NamedInput) → Agree a b inputs → AreShort a inputs → AreShort b inputs
short_along a b [] same short = tt
short_along a b (i ∷ inputs) same short =
    (subst (λ bytes. length bytes ≤ byte_limit i.input) same.0 short.0, short_along a b inputs same.1 short.1)

long_along : (a b : Contents) (inputs : List NamedInput) (refusal : Refusal) → Agree a b inputs → IsTooLong a inputs refusal
    → IsTooLong b inputs refusal
long_along a b [] refusal same long = long
long_along a b (i ∷ inputs) refusal same (inl here) =
    inl (subst (λ bytes. byte_limit i.input < length bytes) same.0 here.0, here.1)
long_along a b (i ∷ inputs) refusal same (inr later) =
    inr
    (subst (λ bytes. length bytes ≤ byte_limit i.input) same.0 later.0, long_along a b inputs refusal same.1 later.1)

-- what is said of the three texts of a page
texts_along : (P : List ℕ → List ℕ → List ℕ → Type 0) (page : Page) (a b : Contents) → Agree a b (page_texts page)
    → P (a Document) (a Sheet) (a Metrics) → P (b Document) (b Sheet) (b Metrics)
texts_along P page a b same h =
    subst (λ bytes. P bytes (b Sheet) (b Metrics)) same.0
    (subst (λ bytes. P (a Document) bytes (b Metrics)) same.1.0
    (subst (λ bytes. P (a Document) (a Sheet) bytes) same.1.1.0 h))

view_along : (view : FlowsData → List ℕ) (page : Page) (a b : Contents) (text : List ℕ) → Agree a b (page_texts page)
    → IsPageView view (a Document) (a Sheet) (a Metrics) page.width page.height text
    → IsPageView view (b Document) (b Sheet) (b Metrics) page.width page.height text
view_along view page a b text same yields =
    texts_along (λ d s m. IsPageView view d s m page.width page.height text) page a b same yields

yields_along : (command : Command) (a b : Contents) (text : List ℕ) → Agree a b (reads command) → Yields command a text
    → Yields command b text
yields_along (rows flow) a b text same yields = subst (λ bytes. IsFlowResult bytes text) same.0 yields
yields_along (gen start count) a b text same yields = yields
yields_along (trial start count) a b text same yields = yields
yields_along (layout page) a b text same yields = view_along result_text page a b text same yields
yields_along (all page) a b text same yields =
    texts_along (λ d s m. IsAllResult d s m page.width page.height text) page a b same yields
yields_along (hit page x y) a b text same yields = view_along (hit_text x y) page a b text same yields
yields_along (draw page rule) a b text same yields = view_along (draw_text rule) page a b text same yields
yields_along (check page printed) a b text same yields = yields
yields_along (rows_check flow printed) a b text same yields = yields

no_view_along : (view : FlowsData → List ℕ) (page : Page) (a b : Contents) (refusal : Refusal) → Agree a b (page_texts page)
    → RefusesPageView view (a Document) (a Sheet) (a Metrics) page.width page.height refusal
    → RefusesPageView view (b Document) (b Sheet) (b Metrics) page.width page.height refusal
no_view_along view page a b refusal same denies =
    texts_along (λ d s m. RefusesPageView view d s m page.width page.height refusal) page a b same denies

denies_along : (command : Command) (a b : Contents) (refusal : Refusal) → Agree a b (reads command) → Denies command a refusal
    → Denies command b refusal
denies_along (rows flow) a b refusal same denies = subst (λ bytes. RefusesBytes bytes refusal) same.0 denies
denies_along (gen start count) a b refusal same denies = denies
denies_along (trial start count) a b refusal same denies = denies
denies_along (layout page) a b refusal same denies = no_view_along result_text page a b refusal same denies
denies_along (all page) a b refusal same denies =
    texts_along (λ d s m. RefusesAll d s m page.width page.height refusal) page a b same denies
denies_along (hit page x y) a b refusal same denies = no_view_along (hit_text x y) page a b refusal same denies
denies_along (draw page rule) a b refusal same denies = no_view_along (draw_text rule) page a b refusal same denies
denies_along (check page printed) a b refusal same denies = denies
denies_along (rows_check flow printed) a b refusal same denies = denies

pub result_along : (command : Command) (a b : Contents) (text : List ℕ) → Agree a b (reads command) → HasResult command a text
    → HasResult command b text
result_along command a b text same h = (short_along a b (reads command) same h.0, yields_along command a b text same h.1)

pub refused_along : (command : Command) (a b : Contents) (refusal : Refusal) → Agree a b (reads command)
    → IsRefused command a refusal → IsRefused command b refusal
refused_along command a b refusal same (inl long) = inl (long_along a b (reads command) refusal same long)
refused_along command a b refusal same (inr h) =
    inr (short_along a b (reads command) same h.0, denies_along command a b refusal same h.1)
