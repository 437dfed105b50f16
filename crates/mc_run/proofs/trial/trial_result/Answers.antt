-- The summary of the bytes that were generated is that of the generated document.
use Rattle.std.proofs.Common.{◌<◌, ◌∙◌, arith}
use Rattle.mc_run.proofs.OneTrial.{trial_ok, trial_err}
use Rattle.mc_run.proofs.trial.trial_result.Goals as goal

pub returns-in-Ok-clause-ok : goal.returns-in-Ok-clause-ok
returns-in-Ok-clause-ok c =
    let many = c.in-Ok.ensures.limit in
    let few : 5000 < c.args.count → ⊥ = λ more. let refused = many more in cc in
    trial_ok c.args.start c.args.count c.element_count.result c.as_slice.result.now c.bytes_summary.result (omega (arith, few))
    c.element_count.ensures (c.as_slice.ensures ∙ c.in-Ok.ensures.text) c.bytes_summary.ensures.ok

pub returns-in-Ok-clause-err : goal.returns-in-Ok-clause-err
returns-in-Ok-clause-err c =
    let many = c.in-Ok.ensures.limit in
    let few : 5000 < c.args.count → ⊥ = λ more. let refused = many more in cc in
    trial_err c.args.start c.args.count c.element_count.result c.as_slice.result.now c.bytes_summary.result (omega (arith, few))
    c.element_count.ensures (c.as_slice.ensures ∙ c.in-Ok.ensures.text) c.bytes_summary.ensures.err
