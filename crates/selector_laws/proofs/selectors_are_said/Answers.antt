use Rattle.selector_laws.proofs.Said.{selectors_said}
use Rattle.selector_laws.proofs.selectors_are_said.Goals as goal

pub returns : goal.returns
returns c = selectors_said
