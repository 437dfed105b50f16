-- The texts that were read have these bytes.
use Rattle.std.proofs.Common.{◌≡◌, ◌⊎◌, IfErr, subst}
use Rattle.mc_base.specs.declared.refusal.Refusal.TheVariants.{NoMemory}
use Rattle.mc_run.specs.FlowResult.{RefusesPageView}
use Rattle.mc_run.specs.Viewed.{view_text}
use Rattle.mc_run.proofs.pages.page_result.Goals as goal

pub returns-clause-err : goal.returns-clause-err
returns-clause-err c =
    subst
    (λ d. IfErr c.bytes_result.result (λ e. (e ≡ NoMemory)
    ⊎ RefusesPageView (view_text c.args.view) d c.args.texts.now.sheet.items
    c.args.texts.now.metrics.items c.args.width c.args.height e)) c.as_slice.ensures.value
    (subst
    (λ s. IfErr c.bytes_result.result (λ e. (e ≡ NoMemory) ⊎ RefusesPageView (view_text c.args.view) c.as_slice.result.now s
    c.args.texts.now.metrics.items c.args.width c.args.height e)) c.as_slice-2.ensures.value
    (subst
    (λ m. IfErr c.bytes_result.result (λ e. (e ≡ NoMemory)
    ⊎ RefusesPageView (view_text c.args.view) c.as_slice.result.now c.as_slice-2.result.now m
    c.args.width c.args.height e)) c.as_slice-3.ensures.value c.bytes_result.ensures.err))
