use Rattle.css_laws.proofs.Whole.{tokens_said}
use Rattle.css_laws.proofs.tokens_are_said.Goals as goal

pub returns : goal.returns
returns c = tokens_said
