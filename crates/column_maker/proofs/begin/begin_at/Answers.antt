use Rattle.std.proofs.Common.{◌∙◌, ap}
use Rattle.flow_list.specs.Data.{Seam}
use Rattle.column_maker.proofs.Begins.{boxes-across-known, head-room, tops-across-room}
use Rattle.column_maker.proofs.begin.begin_at.Goals as goal

pub continued-requires-clause-known : goal.continued-requires-clause-known
continued-requires-clause-known c =
    boxes-across-known c.args.flows.now c.args.flow c.flow_counts-counts.ensures.sound c.requires.flow c.args.i
    c.as_slice.result.now (c.as_slice.ensures.value ∙ c.in_ok-boxes.ensures)

pub continued-requires-clause-room : goal.continued-requires-clause-room
continued-requires-clause-room c =
    tops-across-room c.args.flows.now c.args.flow c.flow_counts-counts.ensures.sound c.requires.flow c.args.i
    c.as_slice.result.now (c.as_slice.ensures.value ∙ c.in_ok-boxes.ensures)

pub lay_all-requires-clause-room : goal.lay_all-requires-clause-room
lay_all-requires-clause-room c =
    head-room c.args.flows.now c.args.flow c.flow_counts-counts.ensures.sound c.requires.flow c.args.i
    c.as_slice.result.now (c.as_slice.ensures.value ∙ c.in_ok-boxes.ensures) _ _
    (c.as_slice-2.ensures ∙ ap (λ (s : Seam). s.head) c.seam_at-2.ensures.same) c.in_ok-at.at c.in_ok-at.ensures.strip
