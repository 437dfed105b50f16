use Rattle.std.proofs.Common.{◌≡◌, take}
use Rattle.std.specs.List.{fold}
use Rattle.spanner_split.specs.Cut.{boxes_after}
use Rattle.spanner_split.proofs.splitting.follow.Given as goal

abbrev pub invariant-loop-event : goal.invariant-loop-event
invariant-loop-event l = l.opened.items ≡ fold boxes_after l.initial.opened.items (take l.event-index l.events)
