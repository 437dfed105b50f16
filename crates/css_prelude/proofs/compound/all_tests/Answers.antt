use Rattle.std.proofs.Common.{◌≡◌, true, false}
use Rattle.css_prelude.specs.Compounds.{begins_test}
use Rattle.css_prelude.proofs.TestLoop.{tests_stop, tests_off, tests_go, tests_out}
use Rattle.css_prelude.proofs.compound.all_tests.Goals as goal

pub returns-then-not-begins_test : goal.returns-then-not-begins_test
returns-then-not-begins_test c =
    let off : begins_test c.loop.rest ≡ false = cc in
    tests_stop c.args.size c.loop.counter c.loop.all c.loop.rest _ c.loop-test.true off c.loop.invariant

pub returns-in_default : goal.returns-in_default
returns-in_default c =
    let on : begins_test c.loop.rest ≡ true = cc in
    tests_off c.args.size c.loop.counter c.loop.all c.loop.rest _ c.loop-test.true on (rw c.in_default.is at c.in_ok-next.ensures)
    c.loop.invariant

pub loop-preserved : goal.loop-preserved
loop-preserved c =
    let on : begins_test c.loop.rest ≡ true = cc in
    tests_go c.args.size c.loop.counter c.loop.all c.in_ok-all.all c.loop.rest c.test.new.rest c.in-Some.one _ c.loop-test.true on
    (rw c.in-Some.is at c.in_ok-next.ensures) c.in_ok-all.ensures c.loop.invariant

pub returns : goal.returns
returns c = tests_out c.args.size c.loop.counter c.loop.all c.loop.rest _ c.loop-test.false c.loop.invariant
