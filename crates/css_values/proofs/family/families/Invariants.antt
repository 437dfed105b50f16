use Rattle.std.proofs.Common.{◌≡◌, length}
use Rattle.std.specs.List.{slice_split}
use Rattle.css_values.specs.Values.{significant}
use Rattle.css_values.specs.Families.{is_comma, all_families}
use Rattle.css_values.proofs.Lists.{with_front}
use Rattle.css_values.proofs.family.families.Given as goal

abbrev pub invariant-pieces : goal.invariant-pieces
invariant-pieces l = with_front l.names (all_families (slice_split is_comma (significant l.rest)))
    ≡ all_families (slice_split is_comma (significant l.value))

abbrev pub decreases-pieces : goal.decreases-pieces
decreases-pieces l = length l.rest
