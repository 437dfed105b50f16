use Rattle.std.proofs.Common.{◌≡◌, ◌-◌, ◌^◌, min, sum_by, take}
use Rattle.flow_data.specs.Soundness.{flow_height}
use Rattle.flow_data.proofs.sizes.heights_are_low.Given as goal

abbrev pub invariant-loop-flow : goal.invariant-loop-flow
invariant-loop-flow l = l.sum ≡ min (sum_by (flow_height l.parts) (take l.flow-index l.parts.flows)) (2 ^ 64 - 1)
