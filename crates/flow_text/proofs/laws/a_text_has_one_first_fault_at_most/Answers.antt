use Rattle.flow_text.proofs.OneFault.{fault_is_told, one_fault, no_fault_of_file}
use Rattle.flow_text.proofs.laws.a_text_has_one_first_fault_at_most.Goals as goal

pub returns-clause-read : goal.returns-clause-read
returns-clause-read c = fault_is_told

pub returns-clause-one : goal.returns-clause-one
returns-clause-one c = one_fault

pub returns-clause-none : goal.returns-clause-none
returns-clause-none c = no_fault_of_file
