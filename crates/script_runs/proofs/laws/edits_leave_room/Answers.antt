use Rattle.script_runs.proofs.Roomy.{edits_leave_room}
use Rattle.script_runs.proofs.laws.edits_leave_room.Goals as goal

pub returns : goal.returns
returns c = edits_leave_room
