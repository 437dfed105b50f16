use Rattle.std.proofs.Common.{◌≡◌, ◌^◌, drop}
use Rattle.std.specs.Prelude.{flat_map}
use Rattle.box_data.specs.Limits.{first_above}
use Rattle.box_style.specs.Lengths.{lengths_at, shown_lengths}
use Rattle.box_style.proofs.lengths.first_long.Given as goal

abbrev pub invariant-loop-node : goal.invariant-loop-node
invariant-loop-node l =
    first_above (2 ^ 24) (flat_map (lengths_at l.entries) (drop l.node-index l.shown))
    ≡ first_above (2 ^ 24) (shown_lengths l.entries l.shown)
