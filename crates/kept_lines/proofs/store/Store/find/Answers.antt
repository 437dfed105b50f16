use Rattle.kept_lines.specs.Keeping.{IsTrueRun}
use Rattle.kept_lines.proofs.Kept.{copied, same_option}
use Rattle.kept_lines.proofs.store.Store.find.Goals as goal

pub returns : goal.returns
returns c = λ faces all.
    copied (IsTrueRun faces) c.get.result (same_option (IsTrueRun faces) _ _ c.get.ensures.value (all c.args.place))
