use Rattle.std.proofs.Common.{◌≡◌, drop}
use Rattle.css_winner.specs.Keys.{first_class}
use Rattle.css_winner.proofs.key.first_class.Given as goal

abbrev pub invariant-loop-test : goal.invariant-loop-test
invariant-loop-test l = first_class (drop l.test-index l.tests) ≡ first_class l.tests
