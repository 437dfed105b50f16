use Rattle.script_runs.proofs.ScriptTexts.{scripts_are_bounded}
use Rattle.script_runs.proofs.laws.scripts_are_bounded.Goals as goal

pub returns : goal.returns
returns c = scripts_are_bounded c.a_step_is_written_so.ensures
