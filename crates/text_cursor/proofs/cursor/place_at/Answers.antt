use Rattle.std.proofs.Common.{sym, chars}
use Rattle.text_cursor.proofs.PlaceLemmas.{first_none, first_feed, first_plain}
use Rattle.text_cursor.proofs.cursor.place_at.Goals as goal

pub returns-in_err-first : goal.returns-in_err-first
returns-in_err-first c = rw c.from_residual.ensures
    (sym (first_none (chars c.args.rest.now) c.args.at c.in_err-first.ensures.value))

pub returns-then-first-eq13 : goal.returns-then-first-eq13
returns-then-first-eq13 c = sym
    (first_feed (chars c.args.rest.now) (chars c.in_ok-first.field-0-1.now) c.args.at c.in_ok-first.first
    c.in_ok-first.ensures.value c.if-first-eq13.true)

pub returns-else-first-eq13 : goal.returns-else-first-eq13
returns-else-first-eq13 c = sym
    (first_plain (chars c.args.rest.now) (chars c.in_ok-first.field-0-1.now) c.args.at c.in_ok-first.first
    c.in_ok-first.ensures.value c.if-first-eq13.false)
