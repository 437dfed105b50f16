use Rattle.std.proofs.Common.{◌≡◌, take}
use Rattle.css_values.specs.Declarations.{all_alike}
use Rattle.css_values.proofs.declaration.all_alike.Given as goal

abbrev pub invariant-loop-property : goal.invariant-loop-property
invariant-loop-property l = l.set ≡ all_alike (take l.property-index l.properties) l.value
