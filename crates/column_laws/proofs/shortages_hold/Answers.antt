use Rattle.column_laws.proofs.Staying.{shortages-hold}
use Rattle.column_laws.proofs.shortages_hold.Goals as goal

pub returns : goal.returns
returns c = shortages-hold
