use Rattle.std.proofs.Common.{◌≡◌, ◌≤◌, length, drop}
use Rattle.box_maker.proofs.Sweep.{swept}
use Rattle.box_maker.proofs.ends.ends_of.Given as goal

abbrev pub invariant-loop-k : goal.invariant-loop-k
invariant-loop-k l = record {
  within : l.k ≤ length l.nodes;
  size : length l.ends.items ≡ length l.nodes;
  numbers : l.ends.items ≡ swept l.k (drop l.k l.nodes) l.initial.ends.items;
}

abbrev pub decreases-loop-k : goal.decreases-loop-k
decreases-loop-k l = l.k
