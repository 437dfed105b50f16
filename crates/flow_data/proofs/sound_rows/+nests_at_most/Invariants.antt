use Rattle.std.proofs.Common.{◌-◌, All, take}
use Rattle.flow_data.specs.Flows.{row_in}
use Rattle.flow_data.specs.Soundness.{NestsAtMost}
use Rattle.flow_data.proofs.sound_rows.+nests_at_most.Given as goal

abbrev pub decreases-nests_at_most : goal.decreases-nests_at_most
decreases-nests_at_most l = l.n

abbrev pub invariant-loop-item : goal.invariant-loop-item
invariant-loop-item l = All (λ item. All (NestsAtMost l.parts (l.n - 1)) (row_in item)) (take l.item-index l.item-items)
