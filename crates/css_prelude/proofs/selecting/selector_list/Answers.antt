use Rattle.std.proofs.Common.{length}
use Rattle.css_prelude.proofs.ListLoop.{list_goes, list_done, list_off, list_out}
use Rattle.css_prelude.proofs.selecting.selector_list.Goals as goal

pub returns-in-Done : goal.returns-in-Done
returns-in-Done c =
    let size = length c.args.prelude.now in
    let read = rw c.in-Done.is at c.in_ok-next.ensures in
    rw c.whole.ensures (list_done size c.loop.counter size c.loop.state c.in_ok-next.then c.loop.rest c.take_turn.new.rest _
    c.loop-test.true read c.loop.invariant)

pub returns-in-Off : goal.returns-in-Off
returns-in-Off c =
    let size = length c.args.prelude.now in
    let read = rw c.in-Off.is at c.in_ok-next.ensures in
    list_off size c.loop.counter size c.loop.state c.in_ok-next.then c.loop.rest c.take_turn.new.rest _ c.loop-test.true read
    c.loop.invariant

pub loop-preserved : goal.loop-preserved
loop-preserved c =
    let size = length c.args.prelude.now in
    let read = rw c.in-More.is at c.in_ok-next.ensures in
    list_goes size c.loop.counter size c.loop.state c.in_ok-next.then c.loop.rest c.take_turn.new.rest _ c.loop-test.true read
    c.loop.invariant

pub returns : goal.returns
returns c = list_out (length c.args.prelude.now) c.loop.counter (length c.args.prelude.now) c.loop.state c.loop.rest _
    c.loop-test.false c.loop.invariant
