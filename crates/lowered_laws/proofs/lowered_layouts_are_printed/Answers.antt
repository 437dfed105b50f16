use Rattle.lowered_laws.proofs.Printed.{printed}
use Rattle.lowered_laws.proofs.lowered_layouts_are_printed.Goals as goal

pub returns : goal.returns
returns c = λ d flags laid p sound is. printed d sound flags laid p is
