use Rattle.flow_laws.proofs.RowsStay.{breaks-stay}
use Rattle.flow_laws.proofs.breaks_are_constant.Goals as goal

pub returns : goal.returns
returns c = breaks-stay
