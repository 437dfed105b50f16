use Rattle.std.proofs.Common.{◌≡◌, ℕ, ◌<◌, false}
use Rattle.spanner_split.specs.Cut.{is_border}
use Rattle.spanner_split.proofs.splitting.part_end.Given as goal

abbrev pub invariant-loop-at : goal.invariant-loop-at
invariant-loop-at l = (k : ℕ) → l.from < k → k < l.at → is_border l.events k ≡ false
