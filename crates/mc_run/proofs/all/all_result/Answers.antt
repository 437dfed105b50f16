-- The texts that were read have these bytes.
use Rattle.std.proofs.Common.{◌≡◌, ◌⊎◌, IfErr, subst}
use Rattle.mc_base.specs.declared.refusal.Refusal.TheVariants.{NoMemory}
use Rattle.mc_run.specs.AllResult.{RefusesAll}
use Rattle.mc_run.proofs.all.all_result.Goals as goal

pub returns-clause-err : goal.returns-clause-err
returns-clause-err c =
    subst
    (λ d. IfErr c.bytes_all.result (λ e. (e ≡ NoMemory) ⊎ RefusesAll d c.args.texts.now.sheet.items
    c.args.texts.now.metrics.items c.args.width c.args.height e)) c.as_slice.ensures.value
    (subst
    (λ s. IfErr c.bytes_all.result (λ e. (e ≡ NoMemory) ⊎ RefusesAll c.as_slice.result.now s
    c.args.texts.now.metrics.items c.args.width c.args.height e)) c.as_slice-2.ensures.value
    (subst
    (λ m. IfErr c.bytes_all.result (λ e. (e ≡ NoMemory) ⊎ RefusesAll c.as_slice.result.now c.as_slice-2.result.now m
    c.args.width c.args.height e)) c.as_slice-3.ensures.value c.bytes_all.ensures.err))
