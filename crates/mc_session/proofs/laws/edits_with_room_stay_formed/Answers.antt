use Rattle.mc_session.proofs.Room.{room_is_enough}
use Rattle.mc_session.proofs.laws.edits_with_room_stay_formed.Goals as goal

pub returns : goal.returns
returns c = room_is_enough
