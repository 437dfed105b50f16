use Rattle.std.proofs.Common.{◌≡◌, drop}
use Rattle.std.specs.Prelude.{find}
use Rattle.css_values.specs.Words.{same}
use Rattle.css_values.specs.Names.{property_name}
use Rattle.css_values.proofs.name.property_named.Given as goal

abbrev pub invariant-loop-property : goal.invariant-loop-property
invariant-loop-property l = find (λ x. same l.name (property_name x)) (drop l.property-index l.all)
    ≡ find (λ x. same l.name (property_name x)) l.all
