use Rattle.std.proofs.Common.{take}
use Rattle.std.specs.List.{flat_map}
use Rattle.flow_data.specs.Flows.{ended}
use Rattle.column_strip.specs.Boxes.{IsWith}
use Rattle.column_strip.proofs.open_boxes.OpenBoxes.after_tail.Given as goal

abbrev pub invariant-loop-edge : goal.invariant-loop-edge
invariant-loop-edge l = IsWith l.flows l.open (flat_map ended (take l.edge-index l.tail)) l.fn.self
