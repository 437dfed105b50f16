use Rattle.std.proofs.Common.{◌∙◌, ap}
use Rattle.flow_list.specs.Data.{Seam}
use Rattle.flow_data.specs.Flows.{flow_of, no_flow}
use Rattle.open_boxes.proofs.OpenLists.{tail-passed}
use Rattle.open_boxes.proofs.pass_tail.Goals as goal

pub returns : goal.returns
returns c =
    let sound = c.flow_counts-counts.ensures.sound.flows c.args.flow no_flow c.requires.flow in
    tail-passed c.args.flows.now (flow_of c.args.flows.now c.args.flow) sound c.args.k c.requires.item c.args.boxes.now.items _ _
    c.requires.boxes (c.as_slice.ensures ∙ ap (λ (s : Seam). s.tail) c.seam_at.ensures.same) c.in_ok-pass_edges.ensures
