use Rattle.script_printer.proofs.OneScript.{one_script_answer}
use Rattle.script_printer.proofs.laws.scripts_have_one_answer.Goals as goal

pub returns : goal.returns
returns c = one_script_answer c.trees_have_one_answer.ensures
