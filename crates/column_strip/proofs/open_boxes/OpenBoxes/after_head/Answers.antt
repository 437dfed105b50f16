use Rattle.std.proofs.Common.{◌≤◌, length, arith, take_all}
use Rattle.flow_data.specs.declared.data.Edge.TheVariants.{Margin}
use Rattle.flow_data.specs.Flows.{started}
use Rattle.column_strip.proofs.BoxSteps.{room-next, with-next, with-none}
use Rattle.column_strip.proofs.open_boxes.OpenBoxes.after_head.Goals as goal

pub loop-edge-init : goal.loop-edge-init
loop-edge-init c = with-none c.args.flows.now c.args.self

pub after_start-open-requires-clause-room : goal.after_start-open-requires-clause-room
after_start-open-requires-clause-room c =
    room-next c.args.flows.now started c.args.head.now c.loop-edge.edge-index (Margin 0) c.loop-edge-test.true c.args.self
    c.loop-edge.open
    c.requires.room c.loop-edge.invariant

pub loop-edge-preserved : goal.loop-edge-preserved
loop-edge-preserved c =
    with-next c.args.flows.now started c.args.head.now c.loop-edge.edge-index (Margin 0) c.loop-edge-test.true c.args.self
    c.loop-edge.open c.after_start-open.result
    c.loop-edge.invariant c.after_start-open.ensures

pub returns : goal.returns
returns c = let le : length c.args.head.now ≤ c.loop-edge.edge-index = omega arith in rw take_all at c.loop-edge.invariant
