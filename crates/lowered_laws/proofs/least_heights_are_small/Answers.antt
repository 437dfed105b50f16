use Rattle.lowered_laws.proofs.LeastSmall.{least-small}
use Rattle.lowered_laws.proofs.least_heights_are_small.Goals as goal

pub returns : goal.returns
returns c = least-small
