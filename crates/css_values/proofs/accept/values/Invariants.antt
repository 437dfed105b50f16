use Rattle.std.proofs.Common.{◌≡◌, drop}
use Rattle.css_values.specs.Values.{values_of, significant}
use Rattle.css_values.proofs.Lists.{with_front}
use Rattle.css_values.proofs.accept.values.Given as goal

abbrev pub invariant-loop-token : goal.invariant-loop-token
invariant-loop-token l = with_front l.found.items (values_of l.forms (significant (drop l.token-index l.value)))
    ≡ values_of l.forms (significant l.value)
