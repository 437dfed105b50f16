use Rattle.css_laws.proofs.Whole.{one_list}
use Rattle.css_laws.proofs.one_list_of_tokens.Goals as goal

pub returns : goal.returns
returns c = one_list
