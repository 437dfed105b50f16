use Rattle.std.proofs.Common.{◌≡◌, ◌-◌}
use Rattle.css_prelude.specs.Compounds.{tests_from, no_tests}
use Rattle.css_prelude.proofs.compound.all_tests.Given as goal

abbrev pub invariant-loop : goal.invariant-loop
invariant-loop l = tests_from (l.size - l.counter) l.all l.rest ≡ tests_from l.size no_tests l.fn.rest
