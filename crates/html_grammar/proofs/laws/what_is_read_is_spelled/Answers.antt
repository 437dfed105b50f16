use Rattle.html_grammar.proofs.Texts as texts
use Rattle.html_grammar.proofs.laws.what_is_read_is_spelled.Goals as goal

pub returns : goal.returns
returns c = texts.text_of
