use Rattle.page_views.proofs.Counted.{first_is_stack}
use Rattle.page_views.proofs.lines.lines_of_layout.Goals as goal

pub tree_lines-requires : goal.tree_lines-requires
tree_lines-requires c =
    (c.layouts_are_printed.ensures c.args.flows.now c.args.laid.now c.args.pool.now c.flow_counts-counts.ensures.sound
    c.requires).fits

pub returns : goal.returns
returns c =
    let sound = c.flow_counts-counts.ensures.sound in
    let printed = c.layouts_are_printed.ensures c.args.flows.now c.args.laid.now c.args.pool.now sound c.requires in
    let same = c.tree_lines.ensures printed.given in
    record {
      lines = rw printed.lines at same;
      height = first_is_stack c.args.flows.now sound.some_stack;
    }
