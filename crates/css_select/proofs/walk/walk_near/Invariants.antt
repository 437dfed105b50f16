use Rattle.std.proofs.Common.{◌≤◌}
use Rattle.css_select.specs.Walking.{IsOn, is_near}
use Rattle.css_select.proofs.walk.walk_near.Given as goal

abbrev pub invariant-loop-place : goal.invariant-loop-place
invariant-loop-place l = record {
  within : l.place ≤ l.start;
  on : IsOn is_near l.dom l.selector l.start l.node l.place l.at;
}

abbrev pub decreases-loop-place : goal.decreases-loop-place
decreases-loop-place l = l.place
