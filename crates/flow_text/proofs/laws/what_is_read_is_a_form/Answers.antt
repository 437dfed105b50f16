use Rattle.flow_text.proofs.FormLemmas.{form_takes}
use Rattle.flow_text.proofs.laws.what_is_read_is_a_form.Goals as goal

pub returns : goal.returns
returns c = form_takes
