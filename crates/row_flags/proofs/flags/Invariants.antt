use Rattle.std.proofs.Common.{◌≡◌, length}
use Rattle.row_flags.specs.Asking.{AreFlags, asking_to, box_asks}
use Rattle.row_flags.proofs.flags.Given as goal

abbrev pub invariant-loop-flow : goal.invariant-loop-flow
invariant-loop-flow l = record {
  count : length l.flags.items ≡ length l.flows.rows;
  flags : AreFlags l.flows (asking_to (box_asks l.styles l.boxes.nodes) l.flows l.flow) l.flags.items;
}
