use Rattle.std.proofs.Common.{◌≡◌, ◌+◌, ◌-◌, ◌^◌, min, sum_by, take}
use Rattle.flow_data.specs.Data.{Seam}
use Rattle.flow_data.specs.Sizes.{cloned_height}
use Rattle.flow_data.specs.Flows.{amount, starts_in}
use Rattle.flow_data.proofs.sizes.seams_height.Given as goal

abbrev pub invariant-loop-seam : goal.invariant-loop-seam
invariant-loop-seam l = l.sum
    ≡ min (sum_by (λ (s : Seam). sum_by amount s.tail + sum_by amount s.head) (take l.seam-index l.seams) + sum_by
    (cloned_height l.parts) (starts_in (take l.seam-index l.seams))) (2 ^ 64 - 1)
