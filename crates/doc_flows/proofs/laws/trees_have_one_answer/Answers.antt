use Rattle.doc_flows.proofs.OneTree.{one_tree_answer}
use Rattle.doc_flows.proofs.laws.trees_have_one_answer.Goals as goal

pub returns : goal.returns
returns c = one_tree_answer
