use Rattle.std.proofs.Common.{◌-◌, All, take}
use Rattle.flow_data.specs.Flows.{row_in}
use Rattle.flow_data.proofs.Everywhere.{RowNamesLater}
use Rattle.flow_data.proofs.sound_stacks.+names_later.Given as goal

abbrev pub decreases-names_later : goal.decreases-names_later
decreases-names_later l = l.depth

abbrev pub invariant-loop-item : goal.invariant-loop-item
invariant-loop-item l = All (λ item. All (RowNamesLater l.parts l.stack (l.depth - 1)) (row_in item)) (take l.item-index l.items)
