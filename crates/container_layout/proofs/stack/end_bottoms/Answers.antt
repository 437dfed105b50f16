use Rattle.std.proofs.Common.{◌∙◌, ap, arith}
use Rattle.flow_data.specs.Flows.{flow_of}
use Rattle.flow_list.specs.ClonedEdges.{bottoms, open_across}
use Rattle.container_layout.proofs.Rooms.{across-boxes, bottoms-room, in-flows}
use Rattle.container_layout.proofs.stack.end_bottoms.Goals as goal

pub item_count-requires : goal.item_count-requires
item_count-requires c = in-flows c.args.flows.now c.flow_counts-counts.ensures.sound c.args.stack c.requires.stack

pub boxes_across-requires-clause-flow : goal.boxes_across-requires-clause-flow
boxes_across-requires-clause-flow c = in-flows c.args.flows.now c.flow_counts-counts.ensures.sound c.args.stack c.requires.stack

pub bottoms_of-requires-clause-known : goal.bottoms_of-requires-clause-known
bottoms_of-requires-clause-known c =
    across-boxes c.args.flows.now c.flow_counts-counts.ensures.sound c.args.stack c.requires.stack _ _
    (c.as_slice.ensures.value ∙ c.in_ok-boxes.ensures)

pub bottoms_of-requires-clause-room : goal.bottoms_of-requires-clause-room
bottoms_of-requires-clause-room c =
    let room = bottoms-room c.args.flows.now c.flow_counts-counts.ensures.sound c.args.stack c.requires.stack _
    c.as_slice.result.now (c.as_slice.ensures.value ∙ c.in_ok-boxes.ensures) in
    omega arith

pub returns : goal.returns
returns c =
    c.bottoms_of.ensures ∙ ap (bottoms c.args.flows.now) (c.as_slice.ensures.value ∙ c.in_ok-boxes.ensures)
    ∙ ap (λ k. bottoms c.args.flows.now (open_across (flow_of c.args.flows.now c.args.stack.flow) k)) c.item_count.ensures
