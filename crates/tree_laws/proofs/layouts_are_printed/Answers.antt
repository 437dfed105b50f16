use Rattle.tree_laws.proofs.Printed.{printed}
use Rattle.tree_laws.proofs.layouts_are_printed.Goals as goal

pub returns : goal.returns
returns c = printed
