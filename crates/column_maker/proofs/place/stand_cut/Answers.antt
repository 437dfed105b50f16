use Rattle.std.proofs.Common.{◌∙◌, ap}
use Rattle.flow_list.specs.Data.{Seam}
use Rattle.flow_data.specs.Flows.{flow_of}
use Rattle.column_maker.proofs.Rooms.{cut-tail-room}
use Rattle.column_maker.proofs.place.stand_cut.Goals as goal

pub returns-in_ok-lay_all-clause-room : goal.returns-in_ok-lay_all-clause-room
returns-in_ok-lay_all-clause-room g c =
    cut-tail-room c.args.flows.now (flow_of c.args.flows.now c.args.flow) c.args.k c.args.from.now c.args.at.now c.requires.room
    _ c.requires.low c.stand_row.new.self c.in_ok-stand_row.ensures.leads _
    (c.as_slice.ensures ∙ ap (λ (s : Seam). s.tail) c.seam_at.ensures.same) c.lay_all.new.self c.in_ok-lay_all.ensures.leads
