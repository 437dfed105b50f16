use Rattle.std.proofs.Common.{◌≡◌, ◌≢◌, ℕ, take}
use Rattle.std.specs.Prelude.{AllPairs}
use Rattle.std.specs.BTreeSet.{contains}
use Rattle.std.specs.Ordering.{nat_cmp}
use Rattle.flow_data.specs.Flows.{is_among}
use Rattle.flow_data.proofs.sound_boxes.are_distinct.Given as goal

abbrev pub invariant-loop-number : goal.invariant-loop-number
invariant-loop-number l = record {
  distinct : AllPairs (λ a b. a ≢ b) (take l.number-index l.boxes);
  seen : (q : ℕ) → contains nat_cmp l.seen q ≡ is_among (take l.number-index l.boxes) q;
}
