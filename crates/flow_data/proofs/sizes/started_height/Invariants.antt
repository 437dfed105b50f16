use Rattle.std.proofs.Common.{◌≡◌, ◌-◌, ◌^◌, min, sum_by, flat_map, take}
use Rattle.flow_data.specs.Sizes.{cloned_height}
use Rattle.flow_data.specs.Flows.{started}
use Rattle.flow_data.proofs.sizes.started_height.Given as goal

abbrev pub invariant-loop-edge : goal.invariant-loop-edge
invariant-loop-edge l = l.sum ≡ min (sum_by (cloned_height l.parts) (flat_map started (take l.edge-index l.edges))) (2 ^ 64 - 1)
