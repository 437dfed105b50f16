-- The line of a construct is that of its refusal.
use Rattle.std.proofs.Common.{ap, subst, sym}
use Rattle.mc_run.specs.Stops.{refusal_line}
use Rattle.mc_run.specs.Told.{Tells}
use Rattle.mc_run.proofs.stop.tell_refusal.Goals as goal

pub returns-in-Construct : goal.returns-in-Construct
returns-in-Construct g c = subst (Tells _ _ _ _) (ap refusal_line (sym c.in-Construct.is)) c.tell_construct.ensures
