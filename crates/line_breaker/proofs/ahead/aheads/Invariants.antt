use Rattle.std.proofs.Common.{◌≡◌, ◌≤◌, drop, length, reverse}
use Rattle.line_breaker.specs.Arrays.{ahead_of, aheads_from}
use Rattle.line_breaker.proofs.ahead.aheads.Given as goal

abbrev pub invariant-loop-at : goal.invariant-loop-at
invariant-loop-at l = record {
  within : l.at ≤ length l.pieces;
  next : l.next ≡ ahead_of l.places l.opportunities l.at (drop l.at l.pieces);
  so_far : reverse l.found.items ≡ aheads_from l.places l.opportunities l.at (drop l.at l.pieces);
}

abbrev pub decreases-loop-at : goal.decreases-loop-at
decreases-loop-at l = l.at
