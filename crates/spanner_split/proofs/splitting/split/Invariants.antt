use Rattle.std.proofs.Common.{◌≡◌, ◌-◌, ◌≤◌, length}
use Rattle.spanner_split.specs.Cut.{IsCut, boxes_at}
use Rattle.spanner_split.proofs.splitting.split.Given as goal

abbrev pub invariant-loop-from : goal.invariant-loop-from
invariant-loop-from l = record {
  within : l.from ≤ length l.events;
  cut : IsCut l.events 0 l.parts l.from;
  boxes : l.opened.items ≡ boxes_at l.events l.from;
}

abbrev pub decreases-loop-from : goal.decreases-loop-from
decreases-loop-from l = length l.events - l.from
