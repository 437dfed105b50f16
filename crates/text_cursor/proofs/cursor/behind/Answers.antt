use Rattle.std.proofs.Common.{chars}
use Rattle.text_cursor.proofs.PlaceLemmas.{behind_none, behind_plain, behind_last, behind_return, behind_pair}
use Rattle.text_cursor.proofs.cursor.behind.Goals as goal

pub returns-in_default-clause-places : goal.returns-in_default-clause-places
returns-in_default-clause-places c = behind_none (chars c.args.rest.now) c.args.at c.in_default.ensures.value

pub returns-then-first-ne13-clause-places : goal.returns-then-first-ne13-clause-places
returns-then-first-ne13-clause-places c = behind_plain (chars c.args.rest.now) (chars c.in-Some.behind.now) c.args.at
    c.len_utf8.result c.in-Some.first c.in-Some.ensures.value c.if-first-ne13.true c.len_utf8.ensures.value

pub returns-in_default-split_first-clause-places : goal.returns-in_default-split_first-clause-places
returns-in_default-split_first-clause-places c = behind_last (chars c.args.rest.now) (chars c.in-Some.behind.now) c.args.at
    c.in-Some.first c.in-Some.ensures.value c.if-first-ne13.false c.in_default-split_first.ensures.value

pub returns-then-second-ne10-clause-places : goal.returns-then-second-ne10-clause-places
returns-then-second-ne10-clause-places c =
    behind_return (chars c.args.rest.now) (chars c.in-Some.behind.now) (chars c.in-Some-split_first.after.now) c.args.at
    c.in-Some.first c.in-Some-split_first.second c.in-Some.ensures.value c.if-first-ne13.false c.in-Some-split_first.ensures.value
    c.if-second-ne10.true

pub returns-clause-places : goal.returns-clause-places
returns-clause-places c = behind_pair (chars c.args.rest.now) (chars c.in-Some.behind.now) (chars c.in-Some-split_first.after.now)
    c.args.at c.in-Some.first c.in-Some-split_first.second c.in-Some.ensures.value c.if-first-ne13.false
    c.in-Some-split_first.ensures.value c.if-second-ne10.false
