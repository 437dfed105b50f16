-- The stacks that were laid out are those of the flows.
use Rattle.page_views.proofs.lines.laid_lines.Goals as goal

pub lines_of_layout-requires : goal.lines_of_layout-requires
lines_of_layout-requires c =
    let laid = c.in_ok-laid.ensures in
    record {
      count = laid.count;
      height = λ s entry is. (laid.stacks s entry is).height;
      stands = λ s entry is. (laid.stacks s entry is).frag;
    }
