-- The summary of the generated document, or why there is none.
use Rattle.mc_run.proofs.Stopping.{trial_gives, trial_refused}
use Rattle.mc_run.proofs.answer.answer_trial.Goals as goal

pub returns-in-Ok-clause-ok : goal.returns-in-Ok-clause-ok
returns-in-Ok-clause-ok c = λ held. trial_gives c.args.start c.args.count held c.in-Ok.text c.in-Ok.ensures.ok

pub returns-in-Err-clause-err : goal.returns-in-Err-clause-err
returns-in-Err-clause-err c = λ held before now.
    trial_refused c.args.start c.args.count held before now c.in-Err.refusal c.in-Err.ensures.err
