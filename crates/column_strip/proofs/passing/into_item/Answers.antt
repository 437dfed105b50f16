use Rattle.column_strip.proofs.OpenSums.{head-known, head-room, head-open}
use Rattle.column_strip.proofs.passing.into_item.Goals as goal

pub after_head-requires-clause-known : goal.after_head-requires-clause-known
after_head-requires-clause-known c =
    head-known c.args.flows.now c.args.flow c.flow_counts-counts.ensures.sound c.requires.flow c.args.k c.requires.item
    c.args.across c.requires.across _ c.seam_at-seam.ensures.same _ c.as_slice.ensures

pub after_head-requires-clause-room : goal.after_head-requires-clause-room
after_head-requires-clause-room c =
    head-room c.args.flows.now c.args.flow c.flow_counts-counts.ensures.sound c.requires.flow c.args.k c.requires.item
    c.args.across c.requires.across _ c.seam_at-seam.ensures.same _ c.as_slice.ensures

pub returns : goal.returns
returns c =
    head-open c.args.flows.now c.args.flow c.flow_counts-counts.ensures.sound c.requires.flow c.args.k c.requires.item
    c.args.across c.requires.across _ c.seam_at-seam.ensures.same _ c.as_slice.ensures
    c.after_head.result c.after_head.ensures
