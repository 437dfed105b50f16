use Rattle.edit_script.proofs.Written.{what_is_written}
use Rattle.edit_script.proofs.laws.what_is_written_is_a_step.Goals as goal

pub returns : goal.returns
returns c = what_is_written
