use Rattle.std.proofs.Common.{◌≡◌, take, drop, ◌+◌}
use Rattle.std.specs.Prelude.{count_by}
use Rattle.css_select.specs.Places.{parent_at, stands_in}
use Rattle.css_select.proofs.places.is_last_child.Given as goal

abbrev pub invariant-loop-other : goal.invariant-loop-other
invariant-loop-other l = count_by (stands_in (parent_at l.dom l.node)) (take l.other-index (drop (l.node + 1) l.dom.nodes)) ≡ 0
