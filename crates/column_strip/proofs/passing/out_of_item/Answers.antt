use Rattle.column_strip.proofs.OpenSums.{tail-known, tail-among, tail-across}
use Rattle.column_strip.proofs.passing.out_of_item.Goals as goal

pub after_tail-requires-clause-known : goal.after_tail-requires-clause-known
after_tail-requires-clause-known c =
    tail-known c.args.flows.now c.args.flow c.flow_counts-counts.ensures.sound c.requires.flow c.args.k c.requires.item
    c.args.here c.requires.here _ c.seam_at-seam.ensures.same _ c.as_slice.ensures

pub after_tail-requires-clause-among : goal.after_tail-requires-clause-among
after_tail-requires-clause-among c =
    tail-among c.args.flows.now c.args.flow c.flow_counts-counts.ensures.sound c.requires.flow c.args.k c.requires.item
    c.args.here c.requires.here _ c.seam_at-seam.ensures.same _ c.as_slice.ensures

pub returns : goal.returns
returns c =
    tail-across c.args.flows.now c.args.flow c.flow_counts-counts.ensures.sound c.requires.flow c.args.k c.requires.item
    c.args.here c.requires.here _ c.seam_at-seam.ensures.same _ c.as_slice.ensures
    c.after_tail.result c.after_tail.ensures
