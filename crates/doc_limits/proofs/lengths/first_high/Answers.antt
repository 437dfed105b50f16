use Rattle.std.proofs.Common.{rules, ap, ◌∙◌, map}
use Rattle.flow_data.specs.declared.data.Flow.{Flow}
use Rattle.flow_data.specs.Flows.{atom_height}
use Rattle.box_data.specs.Limits.{first_above}
use Rattle.doc_limits.proofs.Firsts.{first_in, first_more}
use Rattle.doc_limits.proofs.lengths.first_high.Goals as goal

pub returns-then-is_some : goal.returns-then-is_some
returns-then-is_some c =
    first_in 16777216 (λ (f : Flow). map atom_height f.items) c.args.flows.now c.loop-flow.flow-index c.flow-item.result
    c.first_high_item-height.result c.loop-flow-test.true c.flow-item.is
    (c.first_high_item-height.ensures ∙ ap (λ items. first_above 16777216 (map atom_height items)) c.as_slice.ensures)
    (search rules) c.loop-flow.invariant

pub loop-flow-preserved : goal.loop-flow-preserved
loop-flow-preserved c =
    first_more 16777216 (λ (f : Flow). map atom_height f.items) c.args.flows.now c.loop-flow.flow-index c.flow-item.result
    c.first_high_item-height.result c.loop-flow-test.true c.flow-item.is
    (c.first_high_item-height.ensures ∙ ap (λ items. first_above 16777216 (map atom_height items)) c.as_slice.ensures)
    (search rules) c.loop-flow.invariant
