use Rattle.std.proofs.Common.{◌≡◌, ◌++◌, ℕ, List, length}
use Rattle.flow_data.specs.Flows.{flow_of}
use Rattle.flow_list.specs.ClonedEdges.{open_across}
use Rattle.row_flags.specs.Asking.{AreFlags, asking_in, box_asks}
use Rattle.row_flags.proofs.flag_flow.Given as goal

abbrev pub invariant-loop-k : goal.invariant-loop-k
invariant-loop-k l = record {
  across : l.around.items ≡ open_across (flow_of l.flows l.flow) l.k;
  count : length l.flags.items ≡ length l.flows.rows;
  flags : (rows : List ℕ) → AreFlags l.flows rows l.fn.flags.items →
      AreFlags l.flows (rows ++ asking_in (box_asks l.styles l.boxes) (flow_of l.flows l.flow) l.k) l.flags.items;
}
