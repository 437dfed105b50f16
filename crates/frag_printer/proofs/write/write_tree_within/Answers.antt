use Rattle.std.proofs.Common.{◌∙◌}
use Rattle.frag_printer.proofs.write.write_tree_within.Goals as goal

pub tree_lines-requires : goal.tree_lines-requires
tree_lines-requires c =
    (c.layouts_are_printed.ensures c.args.flows.now c.args.laid.now c.args.pool.now c.flow_counts-counts.ensures.sound
    c.requires.layout).fits

pub returns : goal.returns
returns c =
    let printed = c.layouts_are_printed.ensures c.args.flows.now c.args.laid.now c.args.pool.now
    c.flow_counts-counts.ensures.sound c.requires.layout in
    let same = c.in_ok-lines.ensures printed.given ∙ printed.lines in
    record {
      text = rw same at c.write_lines.ensures.text;
      short = c.write_lines.ensures.short;
      long = rw same at c.write_lines.ensures.long;
    }
