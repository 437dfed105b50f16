use Rattle.std.proofs.Common.{◌≡◌, drop}
use Rattle.std.specs.Prelude.{find}
use Rattle.css_values.specs.Words.{same}
use Rattle.css_values.specs.Names.{barred_name}
use Rattle.css_values.proofs.name.barred_named.Given as goal

abbrev pub invariant-loop-barred : goal.invariant-loop-barred
invariant-loop-barred l = find (λ x. same l.name (barred_name x)) (drop l.barred-index l.all)
    ≡ find (λ x. same l.name (barred_name x)) l.all
