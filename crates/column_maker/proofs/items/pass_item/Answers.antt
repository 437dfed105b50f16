use Rattle.std.proofs.Common.{◌∙◌, ap}
use Rattle.flow_list.specs.Data.{Seam}
use Rattle.flow_data.specs.Flows.{flow_of}
use Rattle.column_maker.proofs.Rooms.{next-head-room}
use Rattle.column_maker.proofs.Rows.{passed-leads}
use Rattle.column_maker.proofs.items.pass_item.Goals as goal

pub lay_all-requires-clause-room : goal.lay_all-requires-clause-room
lay_all-requires-clause-room g c =
    next-head-room c.args.flows.now (flow_of c.args.flows.now c.args.flow) c.args.k c.args.from.now c.args.at.now c.requires.room
    _ c.stand_item.new.at c.in_ok-stand_item.ensures.leads _
    (c.as_slice.ensures ∙ ap (λ (s : Seam). s.head) c.seam_at.ensures.same)

pub returns-clause-leads : goal.returns-clause-leads
returns-clause-leads g c =
    passed-leads c.args.flows.now (flow_of c.args.flows.now c.args.flow) c.args.k c.args.from.now c.args.at.now
    c.stand_item.new.at c.lay_all.new.self c.in_ok-stand_item.ensures.leads _
    (c.as_slice.ensures ∙ ap (λ (s : Seam). s.head) c.seam_at.ensures.same) c.in_ok-lay_all.ensures.leads
