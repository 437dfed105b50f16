use Rattle.std.proofs.Common.{arith, ap, ◌∙◌, map}
use Rattle.box_data.specs.DocumentFlows.{box_info}
use Rattle.flow_maker.specs.declared.parts.Parts.{Parts}
use Rattle.flow_maker.specs.Making.{begun, close, data_of}
use Rattle.flow_maker.proofs.Made.{none_made, mark_more, all_made}
use Rattle.flow_maker.proofs.making.make_flows.Goals as goal

pub loop-mark-init : goal.loop-mark-init
loop-mark-init c = none_made c.args.places.now c.args.width c.args.height c.args.marks.now c.in_ok-parts.parts
    c.in_ok-parts.ensures

pub take-requires-clause-flows : goal.take-requires-clause-flows
take-requires-clause-flows c = omega (arith, c.loop-mark.invariant.flows, c.requires.few, c.loop-mark-test.true)

pub take-requires-clause-rows : goal.take-requires-clause-rows
take-requires-clause-rows c = omega (arith, c.loop-mark.invariant.rows, c.requires.few, c.loop-mark-test.true)

pub take-requires-clause-stacks : goal.take-requires-clause-stacks
take-requires-clause-stacks c = omega (arith, c.loop-mark.invariant.stacks, c.requires.few, c.loop-mark-test.true)

pub loop-mark-preserved : goal.loop-mark-preserved
loop-mark-preserved c =
    mark_more c.args.places.now (begun c.args.width c.args.height) c.args.marks.now c.loop-mark.mark-index c.mark-item.result
    c.loop-mark.parts c.in_ok-parts-2.parts c.loop-mark-test.true c.mark-item.is c.in_ok-parts-2.ensures c.loop-mark.invariant

pub returns : goal.returns
returns c content same numbered cut =
    ap (λ (s : Parts). data_of c.in_ok-boxes.boxes s) c.in_ok-parts-3.ensures
    ∙ ap (λ boxes. data_of boxes (close c.loop-mark.parts)) c.in_ok-boxes.ensures
    ∙ all_made c.args.places.now c.args.width c.args.height (map box_info c.args.places.now) c.args.marks.now
    c.loop-mark.mark-index
    c.loop-mark.parts content c.loop-mark-test.false c.loop-mark.invariant same numbered cut
