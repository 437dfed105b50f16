use Rattle.html_grammar.proofs.Texts as texts
use Rattle.html_grammar.proofs.laws.one_tree_of_text.Goals as goal

pub returns : goal.returns
returns c = texts.one_tree_of_text
