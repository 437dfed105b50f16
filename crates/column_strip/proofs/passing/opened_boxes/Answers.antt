use Rattle.std.proofs.Common.{◌∙◌}
use Rattle.column_strip.proofs.OpenSums.{start-known, start-room, start-across}
use Rattle.column_strip.proofs.passing.opened_boxes.Goals as goal

pub with_all-requires-clause-known : goal.with_all-requires-clause-known
with_all-requires-clause-known c =
    start-known c.args.flows.now c.args.flow c.flow_counts-counts.ensures.sound c.requires c.none.result c.none.ensures.tops
    c.none.ensures.bottoms c.none.ensures.avoiding _ (c.as_slice.ensures ∙ c.opened_in.ensures)

pub with_all-requires-clause-room : goal.with_all-requires-clause-room
with_all-requires-clause-room c =
    start-room c.args.flows.now c.args.flow c.flow_counts-counts.ensures.sound c.requires c.none.result c.none.ensures.tops
    c.none.ensures.bottoms c.none.ensures.avoiding _ (c.as_slice.ensures ∙ c.opened_in.ensures)

pub returns : goal.returns
returns c =
    start-across c.args.flows.now c.args.flow c.flow_counts-counts.ensures.sound c.requires c.none.result c.none.ensures.tops
    c.none.ensures.bottoms c.none.ensures.avoiding _ (c.as_slice.ensures ∙ c.opened_in.ensures)
    c.with_all.result c.with_all.ensures
