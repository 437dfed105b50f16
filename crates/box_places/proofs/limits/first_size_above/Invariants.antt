use Rattle.std.proofs.Common.{◌≡◌, drop, flat_map}
use Rattle.box_data.specs.Limits.{first_above, greatest_length, size_lengths}
use Rattle.box_places.proofs.limits.first_size_above.Given as goal

abbrev pub invariant-loop-size : goal.invariant-loop-size
invariant-loop-size l = first_above greatest_length (flat_map size_lengths (drop l.size-index l.sizes))
    ≡ first_above greatest_length (flat_map size_lengths l.sizes)
