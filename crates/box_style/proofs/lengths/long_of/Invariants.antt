use Rattle.std.proofs.Common.{◌≡◌, ◌^◌, drop}
use Rattle.std.specs.Prelude.{flat_map}
use Rattle.css_computed.specs.Styles.{field}
use Rattle.box_data.specs.Limits.{first_above}
use Rattle.box_style.specs.Lengths.{lengths_in, computed_lengths}
use Rattle.box_style.proofs.lengths.long_of.Given as goal

abbrev pub invariant-loop-property : goal.invariant-loop-property
invariant-loop-property l =
    first_above (2 ^ 24) (flat_map (λ property. lengths_in (field property l.style)) (drop l.property-index l.properties))
    ≡ first_above (2 ^ 24) (computed_lengths l.style)
