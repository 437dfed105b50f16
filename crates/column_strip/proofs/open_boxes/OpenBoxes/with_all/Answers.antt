use Rattle.std.proofs.Common.{◌≤◌, length, arith, take_all}
use Rattle.column_strip.proofs.BoxSteps.{one_box, boxes-one, room-next, with-next, with-none}
use Rattle.column_strip.proofs.open_boxes.OpenBoxes.with_all.Goals as goal

pub loop-number-init : goal.loop-number-init
loop-number-init c = with-none c.args.flows.now c.args.self

pub with-open-requires-clause-room : goal.with-open-requires-clause-room
with-open-requires-clause-room c =
    room-next c.args.flows.now one_box c.args.boxes.now c.loop-number.number-index 0 c.loop-number-test.true c.args.self
    c.loop-number.open
    (rw boxes-one c.requires.room) c.loop-number.invariant

pub loop-number-preserved : goal.loop-number-preserved
loop-number-preserved c =
    with-next c.args.flows.now one_box c.args.boxes.now c.loop-number.number-index 0 c.loop-number-test.true c.args.self
    c.loop-number.open c.with-open.result
    c.loop-number.invariant c.with-open.ensures

pub returns : goal.returns
returns c = let le : length c.args.boxes.now ≤ c.loop-number.number-index = omega arith
    in rw (boxes-one, take_all) at c.loop-number.invariant
