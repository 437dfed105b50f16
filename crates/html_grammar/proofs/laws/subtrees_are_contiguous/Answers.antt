use Rattle.html_grammar.proofs.NodeOrder.{contiguous}
use Rattle.html_grammar.proofs.laws.subtrees_are_contiguous.Goals as goal

pub returns : goal.returns
returns c = contiguous
