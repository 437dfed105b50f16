use Rattle.flow_text.proofs.FaultLaws.{first_fault}
use Rattle.flow_text.proofs.laws.the_fault_of_a_text_is_the_first.Goals as goal

pub returns : goal.returns
returns c = first_fault
