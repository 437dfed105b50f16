use Rattle.std.proofs.Common.{◌≡◌, ◌++◌, take, flat_map}
use Rattle.flow_data.specs.Flows.{row_in}
use Rattle.flow_data.proofs.belongs.push_rows.Given as goal

abbrev pub invariant-loop-item : goal.invariant-loop-item
invariant-loop-item l = l.rows.items ≡ l.initial.rows.items ++ flat_map row_in (take l.item-index l.items)
