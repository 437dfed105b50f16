use Rattle.std.proofs.Common.{◌≡◌, drop, None}
use Rattle.css_values.specs.Values.{significant}
use Rattle.css_values.specs.Families.{joined}
use Rattle.css_values.proofs.family.joined.Given as goal

abbrev pub invariant-loop-token : goal.invariant-loop-token
invariant-loop-token l = joined l.name (significant (drop l.token-index l.piece)) ≡ joined None (significant l.piece)
