use Rattle.flow_laws.proofs.RowsAdvance.{columns-advance}
use Rattle.flow_laws.proofs.columns_advance.Goals as goal

pub returns : goal.returns
returns c = columns-advance
