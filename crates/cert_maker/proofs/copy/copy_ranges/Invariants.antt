use Rattle.std.proofs.Common.{◌≡◌, ◌++◌, drop}
use Rattle.cert_maker.proofs.copy.copy_ranges.Given as goal

abbrev pub invariant-loop-range : goal.invariant-loop-range
invariant-loop-range l = l.copies ++ drop l.range-index l.ranges ≡ l.ranges
