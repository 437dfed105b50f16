use Rattle.html_grammar.proofs.Texts as texts
use Rattle.html_grammar.proofs.laws.texts_are_read.Goals as goal

pub returns : goal.returns
returns c = texts.text_is_read
