use Rattle.std.proofs.Common.{◌≡◌, ◌≤◌, take}
use Rattle.std.specs.Prelude.{count_by}
use Rattle.css_select.specs.Places.{parent_at, stands_in}
use Rattle.css_select.proofs.places.siblings_before.Given as goal

abbrev pub invariant-loop-place : goal.invariant-loop-place
invariant-loop-place l = record {
  within : l.count ≤ l.place;
  count : l.count ≡ count_by (stands_in (parent_at l.dom l.node)) (take l.place l.dom.nodes);
}
