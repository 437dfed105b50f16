use Rattle.css_select.specs.Walking.{Tells, any_join, is_level, place_of}
use Rattle.css_select.proofs.walk.matches_up_to.Given as goal

abbrev pub invariant-loop-walk : goal.invariant-loop-walk
invariant-loop-walk l = Tells any_join is_level l.dom l.selector l.start l.node l.walk

abbrev pub decreases-loop-walk : goal.decreases-loop-walk
decreases-loop-walk l = place_of l.walk
