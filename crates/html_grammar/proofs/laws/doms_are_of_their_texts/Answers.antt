use Rattle.html_grammar.proofs.Texts as texts
use Rattle.html_grammar.proofs.laws.doms_are_of_their_texts.Goals as goal

pub returns : goal.returns
returns c = texts.dom_found
