use Rattle.css_laws.proofs.Whole.{tokens_read}
use Rattle.css_laws.proofs.tokens_are_read.Goals as goal

pub returns : goal.returns
returns c = tokens_read
