use Rattle.range_laws.proofs.OwnColumns.{own-columns}
use Rattle.range_laws.proofs.own_columns_enter.Goals as goal

pub returns : goal.returns
returns c = own-columns
