use Rattle.std.proofs.Common.{◌≡◌, drop}
use Rattle.css_winner.specs.Keys.{first_id}
use Rattle.css_winner.proofs.key.first_id.Given as goal

abbrev pub invariant-loop-test : goal.invariant-loop-test
invariant-loop-test l = first_id (drop l.test-index l.tests) ≡ first_id l.tests
