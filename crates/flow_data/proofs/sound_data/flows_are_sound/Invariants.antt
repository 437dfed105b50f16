use Rattle.std.proofs.Common.{All, take}
use Rattle.flow_data.specs.Soundness.{IsSoundFlow}
use Rattle.flow_data.proofs.sound_data.flows_are_sound.Given as goal

abbrev pub invariant-loop-flow : goal.invariant-loop-flow
invariant-loop-flow l = All (IsSoundFlow l.parts) (take l.flow-index l.parts.flows)
