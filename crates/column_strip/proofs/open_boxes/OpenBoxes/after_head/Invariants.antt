use Rattle.std.proofs.Common.{take}
use Rattle.std.specs.List.{flat_map}
use Rattle.flow_data.specs.Flows.{started}
use Rattle.column_strip.specs.Boxes.{IsWith}
use Rattle.column_strip.proofs.open_boxes.OpenBoxes.after_head.Given as goal

abbrev pub invariant-loop-edge : goal.invariant-loop-edge
invariant-loop-edge l = IsWith l.flows l.fn.self (flat_map started (take l.edge-index l.head)) l.open
