use Rattle.std.proofs.Common.{◌≡◌, ◌++◌, take}
use Rattle.flow_data.specs.Flows.{starts_in}
use Rattle.flow_data.proofs.sound_boxes.boxes_in.Given as goal

abbrev pub invariant-loop-seam : goal.invariant-loop-seam
invariant-loop-seam l = l.boxes.items ≡ l.fn.flow.opened ++ starts_in (take l.seam-index l.fn.flow.seams)
