use Rattle.selector_laws.proofs.Read.{selectors_read}
use Rattle.selector_laws.proofs.selectors_are_read.Goals as goal

pub returns : goal.returns
returns c = selectors_read
