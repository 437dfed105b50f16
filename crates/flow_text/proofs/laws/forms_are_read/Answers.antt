use Rattle.flow_text.proofs.FormLemmas.{form_again}
use Rattle.flow_text.proofs.laws.forms_are_read.Goals as goal

pub returns : goal.returns
returns c = form_again
