use Rattle.script_runs.proofs.Roomy.{documents_have_room}
use Rattle.script_runs.proofs.laws.documents_have_room.Goals as goal

pub returns : goal.returns
returns c = documents_have_room
