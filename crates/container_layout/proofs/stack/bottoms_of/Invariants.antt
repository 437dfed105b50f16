use Rattle.std.proofs.Common.{◌≡◌, ◌+◌, drop}
use Rattle.flow_list.specs.ClonedEdges.{bottoms}
use Rattle.container_layout.proofs.stack.bottoms_of.Given as goal

abbrev pub invariant-loop-number : goal.invariant-loop-number
invariant-loop-number l = l.height + bottoms l.flows (drop l.number-index l.boxes) ≡ bottoms l.flows l.boxes
