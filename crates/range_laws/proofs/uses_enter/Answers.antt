use Rattle.range_laws.proofs.Entering.{uses-enter}
use Rattle.range_laws.proofs.uses_enter.Goals as goal

pub returns : goal.returns
returns c = uses-enter
