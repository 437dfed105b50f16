use Rattle.lowered_laws.proofs.Printed.{stack-inside}
use Rattle.lowered_laws.proofs.lowered_trees_name_parts.Goals as goal

pub returns : goal.returns
returns c = stack-inside
