use Rattle.edit_script.proofs.Written.{a_step_is_written}
use Rattle.edit_script.proofs.laws.a_step_is_written_so.Goals as goal

pub returns : goal.returns
returns c = a_step_is_written
