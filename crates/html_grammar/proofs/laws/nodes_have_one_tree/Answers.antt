use Rattle.html_grammar.proofs.NodeOrder.{one_tree_of_nodes}
use Rattle.html_grammar.proofs.laws.nodes_have_one_tree.Goals as goal

pub returns : goal.returns
returns c = one_tree_of_nodes
