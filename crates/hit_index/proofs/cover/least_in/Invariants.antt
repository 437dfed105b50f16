-- what holds the leaves from there on
use Rattle.std.proofs.Common.{◌≡◌, ◌≤◌, drop, length}
use Rattle.hit_index.specs.Cover.{least_in}
use Rattle.hit_index.proofs.cover.least_in.Given as goal

abbrev pub invariant-back : goal.invariant-back
invariant-back l = record {
  known : l.first ≤ length l.held;
  same : l.least ≡ least_in l.holder (drop l.first l.held);
}

abbrev pub decreases-back : goal.decreases-back
decreases-back l = l.first
