use Rattle.std.proofs.Common.{◌≡◌, ◌++◌, drop}
use Rattle.css_values.specs.Declarations.{longhands}
use Rattle.css_values.proofs.declaration.longhands.Given as goal

abbrev pub invariant-loop-i : goal.invariant-loop-i
invariant-loop-i l = l.set ++ longhands (drop l.i l.properties) (drop l.i l.values) ≡ longhands l.properties l.values
