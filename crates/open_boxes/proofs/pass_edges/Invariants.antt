use Rattle.std.proofs.Common.{◌≡◌, drop, fold}
use Rattle.open_boxes.specs.Opening.{opened_by}
use Rattle.open_boxes.proofs.pass_edges.Given as goal

abbrev pub invariant-loop-edge : goal.invariant-loop-edge
invariant-loop-edge l = fold opened_by l.boxes.items (drop l.edge-index l.edges) ≡ fold opened_by l.initial.boxes.items l.edges
