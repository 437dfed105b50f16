use Rattle.std.proofs.Common.{◌≡◌, true, false, Some, None, sym, ◌∙◌}
use Rattle.html_grammar.specs.Places.{first}
use Rattle.html_grammar.specs.Lexing.{value_from, empty_value}
use Rattle.html_subset.specs.Classes.{test_of}
use Rattle.html_subset.proofs.ValueLoop.{value_ends, value_stops, value_goes, value_out}
use Rattle.html_subset.proofs.values.value_from.Goals as goal

pub returns-in_default : goal.returns-in_default
returns-in_default c =
    let none : first c.loop.rest ≡ None = sym c.peek.ensures ∙ c.in_default.is in
    value_ends (test_of c.args.class) c.args.size c.loop.counter c.loop.value c.loop.rest
    (value_from c.args.size (test_of c.args.class) empty_value c.args.rest) c.loop-test.true none c.loop.invariant

pub returns-then-not-passes : goal.returns-then-not-passes
returns-then-not-passes c =
    let some : first c.loop.rest ≡ Some c.in-Some.place = sym c.peek.ensures ∙ c.in-Some.is in
    let off : test_of c.args.class c.in-Some.place.character ≡ false = cc in
    value_stops (test_of c.args.class) c.args.size c.loop.counter c.loop.value c.loop.rest c.in-Some.place
    (value_from c.args.size (test_of c.args.class) empty_value c.args.rest) c.loop-test.true some off c.loop.invariant

pub loop-preserved : goal.loop-preserved
loop-preserved c =
    let some : first c.loop.rest ≡ Some c.in-Some.place = sym c.peek.ensures ∙ c.in-Some.is in
    let on : test_of c.args.class c.in-Some.place.character ≡ true = cc in
    let read = rw c.bump.ensures at c.in_ok-next.ensures in
    value_goes (test_of c.args.class) c.args.size c.loop.counter c.loop.value c.loop.rest c.in-Some.place c.in_ok-next.next
    c.in_ok-next.after (value_from c.args.size (test_of c.args.class) empty_value c.args.rest) c.loop-test.true some on read
    c.loop.invariant

pub returns : goal.returns
returns c = value_out (test_of c.args.class) c.args.size c.loop.counter c.loop.value c.loop.rest
    (value_from c.args.size (test_of c.args.class) empty_value c.args.rest) c.loop-test.false c.loop.invariant
