use Rattle.std.proofs.Common.{◌≡◌, ◌^◌, min, take}
use Rattle.box_data.specs.BoxTree as boxes
use Rattle.box_maker.proofs.reading.whole_number.Given as goal

abbrev pub invariant-loop-digit : goal.invariant-loop-digit
invariant-loop-digit l = l.number ≡ min (boxes.whole_number (take l.digit-index l.digits)) (2 ^ 56)
