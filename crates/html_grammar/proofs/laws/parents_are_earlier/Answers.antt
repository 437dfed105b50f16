use Rattle.html_grammar.proofs.NodeOrder.{earlier, all_but_the_root}
use Rattle.html_grammar.proofs.laws.parents_are_earlier.Goals as goal

pub returns-clause-elements : goal.returns-clause-elements
returns-clause-elements c = earlier

pub returns-clause-root : goal.returns-clause-root
returns-clause-root c = all_but_the_root
