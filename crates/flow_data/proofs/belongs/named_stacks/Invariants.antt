use Rattle.std.proofs.Common.{◌≡◌, ◌∷◌, take, flat_map}
use Rattle.flow_data.specs.Soundness.{stacks_in}
use Rattle.flow_data.proofs.belongs.named_stacks.Given as goal

abbrev pub invariant-loop-flow : goal.invariant-loop-flow
invariant-loop-flow l = l.stacks.items ≡ 0 ∷ flat_map stacks_in (take l.flow-index l.parts.flows)
