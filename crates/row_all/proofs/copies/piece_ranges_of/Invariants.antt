use Rattle.std.proofs.Common.{◌≡◌, take}
use Rattle.row_all.proofs.copies.piece_ranges_of.Given as goal

abbrev pub invariant-loop-range : goal.invariant-loop-range
invariant-loop-range l = l.copy ≡ take l.range-index l.ranges
