use Rattle.std.proofs.Common.{◌≡◌, drop}
use Rattle.std.specs.Prelude.{find}
use Rattle.css_values.specs.Words.{same}
use Rattle.css_values.specs.Names.{shorthand_name}
use Rattle.css_values.proofs.name.shorthand_named.Given as goal

abbrev pub invariant-loop-shorthand : goal.invariant-loop-shorthand
invariant-loop-shorthand l = find (λ x. same l.name (shorthand_name x)) (drop l.shorthand-index l.all)
    ≡ find (λ x. same l.name (shorthand_name x)) l.all
