use Rattle.html_grammar.proofs.Texts as texts
use Rattle.html_grammar.proofs.laws.texts_have_their_doms.Goals as goal

pub returns : goal.returns
returns c = texts.dom_is_read
