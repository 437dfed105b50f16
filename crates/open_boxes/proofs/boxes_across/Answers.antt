use Rattle.std.proofs.Common.{◌∙◌, sym}
use Rattle.flow_data.specs.Flows.{flow_of, no_flow}
use Rattle.open_boxes.proofs.NoBoxes.{across-none}
use Rattle.open_boxes.proofs.boxes_across.Goals as goal

pub returns-then-flow_counts-eq0 : goal.returns-then-flow_counts-eq0
returns-then-flow_counts-eq0 c =
    c.new-boxes.ensures.items
    ∙ sym (across-none c.args.flows.now (flow_of c.args.flows.now c.args.flow)
    (c.flow_counts.ensures.sound.flows c.args.flow no_flow c.requires.flow)
    (sym c.flow_counts.ensures.boxes ∙ c.if-flow_counts-eq0.true) c.args.k)
