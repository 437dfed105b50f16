use Rattle.std.proofs.Common.{◌≡◌, length, chars, Some, None, sym, ◌∙◌}
use Rattle.html_grammar.specs.Places.{places_of, first}
use Rattle.css_tokens.specs.Lexing.{lexemes_from}
use Rattle.css_tokens.proofs.LexemeLoop.{nothing_left, no_turn_left, goes_on}
use Rattle.css_tokens.proofs.reading.all_lexemes.Goals as goal

pub returns-in_default : goal.returns-in_default
returns-in_default c =
    let none : first c.loop.cursor ≡ None = sym c.peek.ensures ∙ c.in_default.is in
    nothing_left _ c.loop.all _ c.loop.cursor none c.loop.invariant

pub loop-preserved : goal.loop-preserved
loop-preserved c =
    let some : first c.loop.cursor ≡ Some c.in-Some._place = sym c.peek.ensures ∙ c.in-Some.is in
    goes_on (length c.args.text.now) c.loop.counter c.loop.all c.push_piece.new.all
    (lexemes_from (length c.args.text.now) (places_of (chars c.args.text.now))) c.loop.cursor c.piece.new.cursor
    c.in-Some._place c.in_ok-next.next c.loop-test.true some c.in_ok-next.ensures c.in_ok-push_piece.ensures c.loop.invariant

pub returns : goal.returns
returns c = no_turn_left (length c.args.text.now) c.loop.counter c.loop.all _ c.loop.cursor c.loop-test.false c.loop.invariant
