use Rattle.std.specs.Prelude.{nat_eq}
use Rattle.kept_lines.specs.Keeping.{IsTrueRun}
use Rattle.kept_lines.proofs.Kept.{left, same_option}
use Rattle.kept_lines.proofs.store.Store.take.Goals as goal

pub returns-clause-run : goal.returns-clause-run
returns-clause-run c = λ faces all. same_option (IsTrueRun faces) _ _ c.swap_remove.ensures.value (all c.args.place)

pub returns-clause-others : goal.returns-clause-others
returns-clause-others c = λ faces all q.
    same_option (IsTrueRun faces) _ _ (c.swap_remove.ensures.updates.0 q)
    (left (IsTrueRun faces) (nat_eq c.args.place q) _ (all q))
