use Rattle.tree_laws.proofs.Inside.{stack-inside}
use Rattle.tree_laws.proofs.trees_name_parts.Goals as goal

pub returns : goal.returns
returns c = stack-inside
