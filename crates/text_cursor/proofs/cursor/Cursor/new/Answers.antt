use Rattle.std.proofs.Common.{chars}
use Rattle.text_cursor.proofs.PlaceLemmas.{all_none, all_marked, all_plain}
use Rattle.text_cursor.proofs.cursor.Cursor.new.Goals as goal

pub returns-in_default : goal.returns-in_default
returns-in_default c = all_none (chars c.args.text.now) c.in_default.ensures.value

pub returns-then-first-eq65279 : goal.returns-then-first-eq65279
returns-then-first-eq65279 c =
    all_marked (chars c.args.text.now) (chars c.in-Some.rest.now) c.in-Some.first c.in-Some.ensures.value c.if-first-eq65279.true

pub returns : goal.returns
returns c = all_plain (chars c.args.text.now) (chars c.in-Some.rest.now) c.in-Some.first c.in-Some.ensures.value
    c.if-first-eq65279.false
