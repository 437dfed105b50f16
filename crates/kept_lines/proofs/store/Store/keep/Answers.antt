use Rattle.std.specs.Prelude.{nat_eq}
use Rattle.std.proofs.Common.{ap}
use Rattle.std.specs.Map.{lookup}
use Rattle.kept_lines.specs.Keeping.{IsTrueRun}
use Rattle.kept_lines.proofs.Kept.{put, same_option}
use Rattle.kept_lines.proofs.store.Store.keep.Goals as goal

pub returns-in-Ok : goal.returns-in-Ok
returns-in-Ok c = λ faces all new q.
    same_option (IsTrueRun faces) _ _ (c.in-Ok.ensures.updates.0 q)
    (put (IsTrueRun faces) (nat_eq c.args.place q) _ c.args.run new (all q))

pub returns : goal.returns
returns c = λ faces all new q.
    same_option (IsTrueRun faces) _ _ (ap (λ es. lookup (nat_eq q) es) c.in-Err.ensures.err) (all q)
