use Rattle.std.proofs.Common.{◌≡◌, take, flat_map}
use Rattle.flow_data.specs.Flows.{rows_in}
use Rattle.flow_data.proofs.belongs.named_rows.Given as goal

abbrev pub invariant-loop-flow : goal.invariant-loop-flow
invariant-loop-flow l = l.rows.items ≡ flat_map rows_in (take l.flow-index l.parts.flows)
