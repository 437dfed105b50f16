use Rattle.std.proofs.Common.{◌≡◌, map, take}
use Rattle.css_values.specs.declared.target.Target.TheVariants.{Laid}
use Rattle.css_values.proofs.target.all_laid.Given as goal

abbrev pub invariant-loop-property : goal.invariant-loop-property
invariant-loop-property l = l.found ≡ map Laid (take l.property-index l.properties)
