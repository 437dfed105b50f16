-- The document that was generated, or why there is none.
use Rattle.std.proofs.Common.{◌<◌, arith}
use Rattle.mc_run.proofs.Stopping.{gen_result, gen_refused, gen_reason}
use Rattle.mc_run.proofs.answer.answer_gen.Goals as goal

pub returns-in-Ok-clause-ok : goal.returns-in-Ok-clause-ok
returns-in-Ok-clause-ok c = λ held.
    let many = c.in-Ok.ensures.limit in
    let few : 5000 < c.args.count → ⊥ = λ more. let refused = many more in cc in
    gen_result c.args.start c.args.count held c.in-Ok.text (omega (arith, few), c.in-Ok.ensures.text)

pub returns-in-Err-clause-err : goal.returns-in-Err-clause-err
returns-in-Err-clause-err c = λ held before now.
    gen_refused c.args.start c.args.count held before now c.in-Err.refusal
    (gen_reason c.args.start c.args.count c.in-Err.refusal c.in-Err.ensures.within
    (λ many. let refused = c.in-Err.ensures.limit many in cc))
