use Rattle.std.proofs.Common.{◌≡◌, ℕ, ◌<◌, false}
use Rattle.line_breaker.specs.Arrays.{counts}
use Rattle.line_breaker.proofs.breaking.first_counting.Given as goal

abbrev pub invariant-loop-at : goal.invariant-loop-at
invariant-loop-at l = (k : ℕ) → l.from < k → k < l.at → counts l.places l.ahead l.from k ≡ false
