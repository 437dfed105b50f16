use Rattle.std.proofs.Common.{◌≡◌, ◌-◌, length, chars, Some, None, Result, sym, subst, ◌∙◌, arith}
use Rattle.std.proofs.lemmas.Result.{err_from_is_err_and}
use Rattle.mc_base.specs.declared.read_error.Fault.{Fault}
use Rattle.html_grammar.specs.Machine.{opening_state}
use Rattle.html_grammar.specs.Places.{places_of, first}
use Rattle.html_grammar.specs.Whole.{Reading, read_from}
use Rattle.html_subset.specs.Building.{state_of}
use Rattle.html_subset.specs.Gives.{Gives}
use Rattle.html_subset.specs.Turn.{reading_of}
use Rattle.html_subset.proofs.ReadLoop.{nothing_left, no_turn_left, goes_on, turn_fails}
use Rattle.html_subset.proofs.reading.read_tokens.Goals as goal

pub returns-in_default : goal.returns-in_default
returns-in_default c =
    let size = length c.args.text.now in
    let none : first c.loop.rest ≡ None = sym c.peek.ensures ∙ c.in_default.is in
    subst (λ (f : Result Reading Fault). Gives (λ r. reading_of r) c.conclude.result f)
    (nothing_left (size - c.loop.counter) size c.loop.seen (state_of c.loop.builder) c.loop.rest
    (read_from size size None opening_state (places_of (chars c.args.text.now))) none c.loop.invariant.told)
    c.conclude.ensures

pub returns-in_err-found : goal.returns-in_err-found
returns-in_err-found c =
    let p = err_from_is_err_and c.from_residual.result c.from_residual.ensures.1 in
    let size = length c.args.text.now in
    let some : first c.loop.rest ≡ Some c.in-Some.place = sym c.peek.ensures ∙ c.in-Some.is in
    let fails = rw c.bump.ensures at c.in_err-found.ensures.state in
    rw (p.1, p.2) (turn_fails c.in_err-found.field-0.0 size c.loop.counter size c.loop.seen (state_of c.loop.builder) c.loop.rest
    c.in-Some.place (read_from size size None opening_state (places_of (chars c.args.text.now))) c.loop-test.true some
    fails c.loop.invariant.told)

pub loop-preserved : goal.loop-preserved
loop-preserved c =
    let size = length c.args.text.now in
    let some : first c.loop.rest ≡ Some c.in-Some.place = sym c.peek.ensures ∙ c.in-Some.is in
    let took = rw c.bump.ensures at c.in_ok-found.ensures.state in
    record {
      told = goes_on size c.loop.counter size c.loop.seen c.or_found-seen.result c.in_ok-found.found (state_of c.loop.builder)
          (state_of c.take_turn.new.builder) c.loop.rest c.in_ok-found.behind c.in-Some.place
          (read_from size size None opening_state (places_of (chars c.args.text.now))) c.loop-test.true some took
          c.or_found-seen.ensures c.loop.invariant.told;
      few = omega (arith, c.in_ok-found.ensures.few);
    }

pub returns : goal.returns
returns c =
    let size = length c.args.text.now in
    subst (λ (f : Result Reading Fault). Gives (λ r. reading_of r) c.conclude-2.result f)
    (no_turn_left size c.loop.counter size c.loop.seen (state_of c.loop.builder) c.loop.rest
    (read_from size size None opening_state (places_of (chars c.args.text.now))) c.loop-test.false c.loop.invariant.told)
    c.conclude-2.ensures
