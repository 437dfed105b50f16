use Rattle.flow_laws.proofs.TreeBounds.{rectangles-bounded}
use Rattle.flow_laws.proofs.rectangles_are_bounded.Goals as goal

pub returns : goal.returns
returns c = rectangles-bounded
