use Rattle.std.proofs.Common.{◌≡◌, ◌++◌, take, flat_map}
use Rattle.flow_data.specs.Soundness.{stack_in}
use Rattle.flow_data.proofs.belongs.push_stacks.Given as goal

abbrev pub invariant-loop-item : goal.invariant-loop-item
invariant-loop-item l = l.stacks.items ≡ l.initial.stacks.items ++ flat_map stack_in (take l.item-index l.items)
