use Rattle.column_laws.proofs.AnyFlow.{flows-are-sound}
use Rattle.column_laws.proofs.flows_are_sound.Goals as goal

pub returns : goal.returns
returns c = flows-are-sound
