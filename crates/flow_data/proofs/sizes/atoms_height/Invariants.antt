use Rattle.std.proofs.Common.{◌≡◌, ◌-◌, ◌^◌, min, sum_by, take}
use Rattle.flow_data.specs.Flows.{atom_height}
use Rattle.flow_data.proofs.sizes.atoms_height.Given as goal

abbrev pub invariant-loop-item : goal.invariant-loop-item
invariant-loop-item l = l.sum ≡ min (sum_by atom_height (take l.item-index l.items)) (2 ^ 64 - 1)
