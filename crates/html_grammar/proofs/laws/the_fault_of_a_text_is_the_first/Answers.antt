use Rattle.html_grammar.proofs.TextFaults as faults
use Rattle.html_grammar.proofs.laws.the_fault_of_a_text_is_the_first.Goals as goal

pub returns : goal.returns
returns c = faults.text_fault
