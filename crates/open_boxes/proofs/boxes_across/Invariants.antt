use Rattle.std.proofs.Common.{◌≡◌, take}
use Rattle.flow_data.specs.Flows.{flow_of}
use Rattle.flow_list.specs.ClonedEdges.{open_across}
use Rattle.open_boxes.proofs.boxes_across.Given as goal

abbrev pub invariant-loop-number : goal.invariant-loop-number
invariant-loop-number l = l.boxes.items ≡ take l.number-index (flow_of l.flows l.flow).opened

abbrev pub invariant-loop-j : goal.invariant-loop-j
invariant-loop-j l = l.boxes.items ≡ open_across (flow_of l.flows l.flow) l.j
