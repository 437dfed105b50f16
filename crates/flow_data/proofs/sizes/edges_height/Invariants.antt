use Rattle.std.proofs.Common.{◌≡◌, ◌-◌, ◌^◌, min, sum_by, take}
use Rattle.flow_data.specs.Flows.{amount}
use Rattle.flow_data.proofs.sizes.edges_height.Given as goal

abbrev pub invariant-loop-edge : goal.invariant-loop-edge
invariant-loop-edge l = l.sum ≡ min (sum_by amount (take l.edge-index l.edges)) (2 ^ 64 - 1)
