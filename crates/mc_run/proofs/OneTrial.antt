-- A generated document is refused for one reason at most, and then it has no summary.
use Rattle.std.proofs.Common.{◌≡◌, ◌⊎◌, inl, inr, ℕ, ◌≤◌, List, [], None, Result, Ok, Err, IfOk, IfErr, sym, ◌∙◌, subst, arith}
use Rattle.doc_flows.specs.Laws.{OneAnswer}
use Rattle.doc_gen.specs.Document.{document}
use Rattle.doc_gen.specs.Trial.{elements_in, trial_metrics}
use Rattle.mc_base.specs.declared.refusal.Refusal.{Refusal}
use Rattle.mc_base.specs.declared.refusal.Refusal.TheVariants.{NoMemory}
use Rattle.page_views.specs.Views.{summary_text}
use Rattle.mc_run.specs.FlowResult.{IsPageView, RefusesPageView}
use Rattle.mc_run.specs.Trial.{IsTrial, RefusesTrial, trial_width}
use Rattle.mc_run.proofs.OneDocument.{one_of_texts, texts_or_refusal}

pub one_of_trial : OneAnswer → (start count : ℕ) (a b : Refusal) → RefusesTrial start count a → RefusesTrial start count b
    → a ≡ b
one_of_trial law start count a b (inl h) (inl k) = h.1 ∙ sym k.1
one_of_trial law start count a b (inl h) (inr k) = let many = h.0 in let few = k.0 in absurd (omega (arith, many, few))
one_of_trial law start count a b (inr h) (inl k) = let few = h.0 in let many = k.0 in absurd (omega (arith, many, few))
one_of_trial law start count a b (inr h) (inr k) =
    one_of_texts law (summary_text (elements_in count)) (document start count) [] trial_metrics trial_width None a b h.1 k.1

pub trial_or_refusal : OneAnswer → (start count : ℕ) (text : List ℕ) (refusal : Refusal) → IsTrial start count text
    → RefusesTrial start count refusal → ⊥
trial_or_refusal law start count text refusal h (inl k) = let few = h.0 in let many = k.0 in omega (arith, many, few)
trial_or_refusal law start count text refusal h (inr k) =
    texts_or_refusal law (summary_text (elements_in count)) (document start count) [] trial_metrics trial_width None text refusal
    h.1 k.1

-- the summary of the bytes of a generated document is that of the document
pub trial_ok : (start count elements : ℕ) (bytes : List ℕ) (r : Result (List ℕ) Refusal) → count ≤ 5000
    → elements ≡ elements_in count → bytes ≡ document start count
    → IfOk r (IsPageView (summary_text elements) bytes [] trial_metrics trial_width None) → IfOk r (IsTrial start count)
trial_ok start count elements bytes (Ok text) few is same h = (
  few,
  subst (λ b. IsPageView (summary_text (elements_in count)) b [] trial_metrics trial_width None text) same
      (subst (λ n. IsPageView (summary_text n) bytes [] trial_metrics trial_width None text) is h),
)
trial_ok start count elements bytes (Err e) few is same h = tt

pub trial_err : (start count elements : ℕ) (bytes : List ℕ) (r : Result (List ℕ) Refusal) → count ≤ 5000
    → elements ≡ elements_in count → bytes ≡ document start count
    → IfErr r (λ e. (e ≡ NoMemory) ⊎ RefusesPageView (summary_text elements) bytes [] trial_metrics trial_width None e)
    → IfErr r (λ e. (e ≡ NoMemory) ⊎ RefusesTrial start count e)
trial_err start count elements bytes (Ok text) few is same h = tt
trial_err start count elements bytes (Err e) few is same (inl none) = inl none
trial_err start count elements bytes (Err e) few is same (inr h) = inr (inr (
  few,
  subst (λ b. RefusesPageView (summary_text (elements_in count)) b [] trial_metrics trial_width None e) same
      (subst (λ n. RefusesPageView (summary_text n) bytes [] trial_metrics trial_width None e) is h),
))
