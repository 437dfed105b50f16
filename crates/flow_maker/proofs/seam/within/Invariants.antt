use Rattle.std.specs.Prelude.{◌≡◌, drop}
use Rattle.flow_maker.specs.Making.{no_boxes, within}
use Rattle.flow_maker.proofs.seam.within.Given as goal

abbrev pub invariant-loop-place : goal.invariant-loop-place
invariant-loop-place l = within l.places l.around (drop l.place-index l.opened) ≡ within l.places no_boxes l.opened
