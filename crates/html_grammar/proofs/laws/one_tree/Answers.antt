use Rattle.html_grammar.proofs.Unique as unique
use Rattle.html_grammar.proofs.laws.one_tree.Goals as goal

pub returns : goal.returns
returns c = unique.one_tree
