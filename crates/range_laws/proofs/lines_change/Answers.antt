use Rattle.range_laws.proofs.ChangeLaw.{lines-change}
use Rattle.range_laws.proofs.lines_change.Goals as goal

pub returns : goal.returns
returns c = lines-change
