use Rattle.std.proofs.Common.{◌∙◌}
use Rattle.column_maker.proofs.Begins.{boxes-at-known, tops-at-room}
use Rattle.column_maker.proofs.begin.begin_within.Goals as goal

pub continued-requires-clause-known : goal.continued-requires-clause-known
continued-requires-clause-known c =
    boxes-at-known c.args.flows.now c.args.flow c.flow_counts-counts.ensures.sound c.requires.flow c.args.i
    c.as_slice.result.now (c.as_slice.ensures.value ∙ c.in_ok-boxes.ensures)

pub continued-requires-clause-room : goal.continued-requires-clause-room
continued-requires-clause-room c =
    tops-at-room c.args.flows.now c.args.flow c.flow_counts-counts.ensures.sound c.requires.flow c.args.i
    c.as_slice.result.now (c.as_slice.ensures.value ∙ c.in_ok-boxes.ensures)
