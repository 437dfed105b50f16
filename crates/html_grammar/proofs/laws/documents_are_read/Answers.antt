use Rattle.html_grammar.proofs.Whole.{document_is_read}
use Rattle.html_grammar.proofs.laws.documents_are_read.Goals as goal

pub returns : goal.returns
returns c = document_is_read
