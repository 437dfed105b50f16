use Rattle.std.proofs.Common.{take}
use Rattle.std.specs.List.{flat_map}
use Rattle.column_strip.specs.Boxes.{IsWith}
use Rattle.column_strip.proofs.BoxSteps.{one_box}
use Rattle.column_strip.proofs.open_boxes.OpenBoxes.with_all.Given as goal

abbrev pub invariant-loop-number : goal.invariant-loop-number
invariant-loop-number l = IsWith l.flows l.fn.self (flat_map one_box (take l.number-index l.boxes)) l.open
