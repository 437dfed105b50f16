-- A document that is refused has no summary.
use Rattle.std.proofs.Common.{◌≡◌, ◌⊎◌, [], None, List, ℕ, subst}
use Rattle.mc_base.specs.declared.refusal.Refusal.TheVariants.{NoMemory}
use Rattle.page_views.specs.Views.{summary_text}
use Rattle.mc_run.specs.FlowResult.{RefusesPageView}
use Rattle.mc_run.specs.Trial.{trial_width}
use Rattle.mc_run.proofs.OneDocument.{refused_texts}
use Rattle.mc_run.proofs.trial.bytes_summary.Goals as goal

pub returns-in-Err-clause-err : goal.returns-in-Err-clause-err
returns-in-Err-clause-err c =
    subst
    (λ (m : List ℕ). (c.in-Err.refusal ≡ NoMemory)
    ⊎ RefusesPageView (summary_text c.args.elements) c.args.document.now [] m trial_width None c.in-Err.refusal)
    c.trial_metrics.ensures.text
    (refused_texts (summary_text c.args.elements) c.args.document.now [] c.trial_metrics.result.now trial_width None
    c.in-Err.refusal c.in-Err.ensures.refused)
