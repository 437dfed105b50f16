use Rattle.std.proofs.Common.{◌≡◌, ◌-◌, ◌<◌, ◌≤◌, true}
use Rattle.line_breaker.specs.Arrays.{ahead_at, fits_in}
use Rattle.line_breaker.proofs.breaking.last_fitting.Given as goal

abbrev pub invariant-loop-at : goal.invariant-loop-at
invariant-loop-at l = record {
  low : l.from ≤ l.at;
  high : l.at < l.end;
  fits : l.from < l.at → fits_in l.base l.width (ahead_at l.ahead l.at).least ≡ true;
}

abbrev pub decreases-loop-at : goal.decreases-loop-at
decreases-loop-at l = l.end - l.at
