use Rattle.all_writer.proofs.tree.lines_of_layout.Goals as goal

pub tree_lines-requires : goal.tree_lines-requires
tree_lines-requires c =
    (c.lowered_layouts_are_printed.ensures c.args.flows.now c.requires.0 c.args.laid.now c.args.pool.now
    c.flow_counts-counts.ensures.sound c.requires.1).fits

pub returns : goal.returns
returns c = λ flags is.
    let printed = c.lowered_layouts_are_printed.ensures c.args.flows.now flags c.args.laid.now c.args.pool.now
    c.flow_counts-counts.ensures.sound is in
    rw printed.lines at (c.tree_lines.ensures printed.given)
