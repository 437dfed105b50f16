use Rattle.std.proofs.Common.{◌≡◌, ◌+◌, ◌≤◌, sum_by, take, drop}
use Rattle.std.specs.Prelude.{fold}
use Rattle.flow_data.specs.Flows.{amount}
use Rattle.flow_list.specs.Strip.{lay}
use Rattle.column_strip.specs.Strips.{strip_of}
use Rattle.column_strip.proofs.laying.Laying.lay_all.Given as goal

abbrev pub invariant-loop-edge : goal.invariant-loop-edge
invariant-loop-edge l = record {
  laid : strip_of l.at ≡ fold lay (strip_of l.initial.at) (take l.edge-index l.edges);
  room : l.at.y + l.at.pending + sum_by amount (drop l.edge-index l.edges) ≤ l.initial.at.y + l.initial.at.pending + sum_by amount
      l.edges;
}
