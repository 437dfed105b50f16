-- A document is refused for one reason at most, and then it has no result.
use Rattle.std.proofs.Common.{◌≡◌, ◌⊎◌, inl, inr, ℕ, List, Option, Result, Ok, Err, IfErr, sym, ◌∙◌}
use Rattle.doc_flows.specs.Documents.{DocumentSays, RefusesDocument}
use Rattle.doc_flows.specs.Laws.{OneAnswer}
use Rattle.mc_base.specs.declared.refusal.Refusal.{Refusal}
use Rattle.mc_base.specs.declared.refusal.Refusal.TheVariants.{NoMemory}
use Rattle.flow_list.specs.Data.{FlowsData}
use Rattle.mc_run.specs.FlowResult.{IsPageView, RefusesPageView}
use Rattle.page_views.specs.Shown.{HasLongView}
use Rattle.mc_run.proofs.Results.{short_or_long}

pub one_of_texts : OneAnswer → (view : FlowsData → List ℕ) (document sheet metrics : List ℕ) (width : ℕ)
    (height : Option ℕ) (a b : Refusal)
    → RefusesPageView view document sheet metrics width height a → RefusesPageView view document sheet metrics width height b
    → a ≡ b
one_of_texts law view document sheet metrics width height a b (inl h) (inl k) =
    law.reason document sheet metrics width height a b h k
one_of_texts law view document sheet metrics width height a b (inl h) (inr k) =
    absurd (law.either document sheet metrics width height k.0.0 a k.0.1 h)
one_of_texts law view document sheet metrics width height a b (inr h) (inl k) =
    absurd (law.either document sheet metrics width height h.0.0 b h.0.1 k)
one_of_texts law view document sheet metrics width height a b (inr h) (inr k) = h.1 ∙ sym k.1

pub texts_or_refusal : OneAnswer → (view : FlowsData → List ℕ) (document sheet metrics : List ℕ) (width : ℕ)
    (height : Option ℕ) (text : List ℕ)
    (refusal : Refusal) → IsPageView view document sheet metrics width height text
    → RefusesPageView view document sheet metrics width height refusal → ⊥
texts_or_refusal law view document sheet metrics width height text refusal h (inl k) =
    law.either document sheet metrics width height h.0 refusal h.1 k
texts_or_refusal law view document sheet metrics width height text refusal h (inr k) =
    short_or_long view (DocumentSays document sheet metrics width height) text refusal
    (law.flows document sheet metrics width height) h k

pub texts_err : (view : FlowsData → List ℕ) (document sheet metrics : List ℕ) (width : ℕ) (height : Option ℕ)
    (r : Result (List ℕ) Refusal)
    → IfErr r (λ e. (e ≡ NoMemory) ⊎ HasLongView view (DocumentSays document sheet metrics width height) e)
    → IfErr r (λ e. (e ≡ NoMemory) ⊎ RefusesPageView view document sheet metrics width height e)
texts_err view document sheet metrics width height (Ok text) is = tt
texts_err view document sheet metrics width height (Err e) (inl none) = inl none
texts_err view document sheet metrics width height (Err e) (inr long) = inr (inr long)

pub refused_texts : (view : FlowsData → List ℕ) (document sheet metrics : List ℕ) (width : ℕ) (height : Option ℕ) (e : Refusal)
    → (e ≡ NoMemory) ⊎ RefusesDocument document sheet metrics width height e
    → (e ≡ NoMemory) ⊎ RefusesPageView view document sheet metrics width height e
refused_texts view document sheet metrics width height e (inl none) = inl none
refused_texts view document sheet metrics width height e (inr refused) = inr (inl refused)
