use Rattle.std.proofs.Common.{◌≡◌, ◌-◌, ◌^◌, min, sum_by, take}
use Rattle.flow_data.specs.Sizes.{cloned_height}
use Rattle.flow_data.proofs.sizes.boxes_height.Given as goal

abbrev pub invariant-loop-number : goal.invariant-loop-number
invariant-loop-number l = l.sum ≡ min (sum_by (cloned_height l.parts) (take l.number-index l.boxes)) (2 ^ 64 - 1)
