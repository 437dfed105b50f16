use Rattle.std.proofs.Common.{◌≡◌, drop}
use Rattle.std.specs.Option.{option_copied}
use Rattle.css_values.specs.Values.{only, significant}
use Rattle.css_values.proofs.Lists.{only_from}
use Rattle.css_values.proofs.accept.only.Given as goal

abbrev pub invariant-loop-token : goal.invariant-loop-token
invariant-loop-token l = only_from (option_copied l.found) (significant (drop l.token-index l.value)) ≡ only (significant l.value)
