use Rattle.flow_laws.proofs.Small.{needs-and-bounds}
use Rattle.flow_laws.proofs.needs_and_bounds.Goals as goal

pub returns : goal.returns
returns c = needs-and-bounds
