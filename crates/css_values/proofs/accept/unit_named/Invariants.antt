use Rattle.std.proofs.Common.{◌≡◌, drop}
use Rattle.std.specs.Prelude.{find}
use Rattle.css_values.specs.Words.{same}
use Rattle.css_values.specs.Keywords.{unit_text}
use Rattle.css_values.proofs.accept.unit_named.Given as goal

abbrev pub invariant-loop-unit : goal.invariant-loop-unit
invariant-loop-unit l = find (λ x. same l.text (unit_text x)) (drop l.unit-index l.all)
    ≡ find (λ x. same l.text (unit_text x)) l.all
