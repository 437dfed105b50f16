use Rattle.std.proofs.Common.{◌≡◌, drop}
use Rattle.box_data.specs.Limits.{first_above, greatest_length}
use Rattle.box_places.proofs.limits.first_above.Given as goal

abbrev pub invariant-loop-length : goal.invariant-loop-length
invariant-loop-length l = first_above greatest_length (drop l.length-index l.lengths) ≡ first_above greatest_length l.lengths
