use Rattle.flow_laws.proofs.DepthSame.{depth-same}
use Rattle.flow_laws.proofs.depth_changes_nothing.Goals as goal

pub returns : goal.returns
returns c = depth-same
