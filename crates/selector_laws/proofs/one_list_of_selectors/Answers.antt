use Rattle.selector_laws.proofs.Read.{one_list}
use Rattle.selector_laws.proofs.one_list_of_selectors.Goals as goal

pub returns : goal.returns
returns c = one_list
