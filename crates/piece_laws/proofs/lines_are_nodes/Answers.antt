use Rattle.piece_laws.proofs.StackLines.{lines-are-nodes}
use Rattle.piece_laws.proofs.lines_are_nodes.Goals as goal

pub returns : goal.returns
returns c = lines-are-nodes
