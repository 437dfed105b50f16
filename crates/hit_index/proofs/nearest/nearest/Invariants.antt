-- no line from there on is it
use Rattle.std.proofs.Common.{◌≡◌, ◌≤◌}
use Rattle.hit_index.specs.Scan.{nearest}
use Rattle.hit_index.proofs.nearest.nearest.Given as goal

abbrev pub invariant-back : goal.invariant-back
invariant-back l = record {
  known : l.before ≤ l.n;
  same : nearest l.marks l.before l.depth ≡ nearest l.marks l.n l.depth;
}

abbrev pub decreases-back : goal.decreases-back
decreases-back l = l.before
