use Rattle.std.proofs.Common.{◌≤◌}
use Rattle.css_select.specs.Walking.{Tells, is_level, is_near, place_of}
use Rattle.css_select.proofs.walk.walk_level.Given as goal

abbrev pub invariant-loop-walk : goal.invariant-loop-walk
invariant-loop-walk l = record {
  tells : Tells is_level is_near l.dom l.selector l.start l.node l.walk;
  within : place_of l.walk ≤ l.start;
}

abbrev pub decreases-loop-walk : goal.decreases-loop-walk
decreases-loop-walk l = place_of l.walk
