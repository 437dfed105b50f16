use Rattle.column_strip.proofs.Rooms.{item-room, item-behind}
use Rattle.column_strip.proofs.passing.past_item.Goals as goal

pub past-requires : goal.past-requires
past-requires c =
    item-room c.args.flows.now c.args.flow c.flow_counts-counts.ensures.sound c.requires.flow c.args.k c.args.height
    c.args.before.strip.y c.args.before.strip.pending c.requires.before.room _ c.seam_at-seam.ensures.same _
    c.as_slice.ensures

pub returns-clause-behind : goal.returns-clause-behind
returns-clause-behind c =
    item-behind c.args.flows.now c.args.flow c.flow_counts-counts.ensures.sound c.requires.flow c.args.k c.args.height
    c.args.before.strip.y c.args.before.strip.pending c.requires.before.room _ c.seam_at-seam.ensures.same _
    c.as_slice.ensures
    c.past.result c.out_of_item.result c.past.ensures.room c.out_of_item.ensures
