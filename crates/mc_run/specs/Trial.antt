-- How the layout of a generated document comes out (this project's own).
use Rattle.std.specs.Prelude.{◌≡◌, ℕ, ◌<◌, ◌≤◌, ◌⊎◌, List, [], None}
use Rattle.doc_gen.specs.Document.{document}
use Rattle.doc_gen.specs.Trial.{elements_in, trial_metrics}
use Rattle.mc_base.specs.declared.refusal.LimitName.TheVariants.{Paragraphs}
use Rattle.mc_base.specs.declared.refusal.Refusal.{Refusal}
use Rattle.mc_base.specs.declared.refusal.Refusal.TheVariants.{Limit}
use Rattle.page_views.specs.Views.{summary_text}
use Rattle.mc_run.specs.FlowResult.{IsPageView, RefusesPageView}

-- 600 px, in units
abbrev pub trial_width : ℕ
trial_width = 38400

-- this text is the summary of a generated document, which is laid out this wide and without a style sheet
abbrev pub IsTrial : (start count : ℕ) → List ℕ → Type 0
IsTrial start count text = (count ≤ 5000)
    × IsPageView (summary_text (elements_in count)) (document start count) [] trial_metrics trial_width None text

-- it is refused for this reason: too many paragraphs, or as a document is
abbrev pub RefusesTrial : (start count : ℕ) → Refusal → Type 0
RefusesTrial start count refusal = ((5000 < count) × (refusal ≡ Limit Paragraphs 5001 5000))
    ⊎ ((count ≤ 5000)
    × RefusesPageView (summary_text (elements_in count)) (document start count) [] trial_metrics trial_width None refusal)
