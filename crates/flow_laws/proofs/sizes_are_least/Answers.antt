use Rattle.flow_laws.proofs.Exists.{sizes-least}
use Rattle.flow_laws.proofs.sizes_are_least.Goals as goal

pub returns : goal.returns
returns c = sizes-least
