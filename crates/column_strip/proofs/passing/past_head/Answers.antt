use Rattle.column_strip.proofs.Rooms.{next-room, next-before}
use Rattle.column_strip.proofs.passing.past_head.Goals as goal

pub lay_all-requires : goal.lay_all-requires
lay_all-requires c =
    next-room c.args.flows.now c.args.flow c.flow_counts-counts.ensures.sound c.requires.flow c.args.k c.args.behind.strip.y
    c.args.behind.strip.pending c.requires.behind.room _ c.seam_at-seam.ensures.same _ c.as_slice.ensures

pub returns-clause-before : goal.returns-clause-before
returns-clause-before c =
    next-before c.args.flows.now c.args.flow c.flow_counts-counts.ensures.sound c.requires.flow c.args.k c.args.behind.strip.y
    c.args.behind.strip.pending c.requires.behind.room _ c.seam_at-seam.ensures.same _ c.as_slice.ensures
    c.lay_all.result c.into_item.result c.args.behind.level c.requires.behind.level c.lay_all.ensures.room c.into_item.ensures
