use Rattle.std.proofs.Common.{◌≤◌, length, arith, take_all}
use Rattle.flow_data.specs.declared.data.Edge.TheVariants.{Margin}
use Rattle.flow_data.specs.Flows.{ended}
use Rattle.column_strip.proofs.BoxSteps.{among-next, less-next, with-none}
use Rattle.column_strip.proofs.open_boxes.OpenBoxes.after_tail.Goals as goal

pub loop-edge-init : goal.loop-edge-init
loop-edge-init c = with-none c.args.flows.now c.args.self

pub after_end-open-requires-clause-among : goal.after_end-open-requires-clause-among
after_end-open-requires-clause-among c =
    among-next c.args.flows.now ended c.args.tail.now c.loop-edge.edge-index (Margin 0) c.loop-edge-test.true c.args.self
    c.loop-edge.open
    c.requires.among c.loop-edge.invariant

pub loop-edge-preserved : goal.loop-edge-preserved
loop-edge-preserved c =
    less-next c.args.flows.now ended c.args.tail.now c.loop-edge.edge-index (Margin 0) c.loop-edge-test.true c.args.self
    c.loop-edge.open c.after_end-open.result
    c.loop-edge.invariant c.after_end-open.ensures

pub returns : goal.returns
returns c = let le : length c.args.tail.now ≤ c.loop-edge.edge-index = omega arith in rw take_all at c.loop-edge.invariant
