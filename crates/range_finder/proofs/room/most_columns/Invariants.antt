use Rattle.std.proofs.Common.{◌≡◌, ◌+◌, ◌≤◌}
use Rattle.flow_data.specs.Flows.{flow_of}
use Rattle.flow_list.specs.Rows.{forced_above}
use Rattle.range_finder.proofs.room.most_columns.Given as goal

abbrev pub invariant-loop-k : goal.invariant-loop-k
invariant-loop-k l = record {
  so_far : forced_above (flow_of l.flows l.info.flow) l.first ≡ l.forced + forced_above (flow_of l.flows l.info.flow) l.k;
  few : l.forced + l.first ≤ l.k;
}
