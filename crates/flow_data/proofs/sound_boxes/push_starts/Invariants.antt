use Rattle.std.proofs.Common.{◌≡◌, ◌++◌, take, flat_map}
use Rattle.flow_data.specs.Flows.{started}
use Rattle.flow_data.proofs.sound_boxes.push_starts.Given as goal

abbrev pub invariant-loop-edge : goal.invariant-loop-edge
invariant-loop-edge l = l.boxes.items ≡ l.fn.boxes.items ++ flat_map started (take l.edge-index l.edges)
