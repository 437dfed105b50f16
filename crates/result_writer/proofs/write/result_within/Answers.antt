-- The stacks that were laid out are those of the flows, and the layout is certified.
use Rattle.result_writer.proofs.write.result_within.Goals as goal

pub write_result_within-requires-clause-layout : goal.write_result_within-requires-clause-layout
write_result_within-requires-clause-layout c =
    let laid = c.in_ok-laid.ensures in
    record {
      count = laid.count;
      height = λ s entry is. (laid.stacks s entry is).height;
      stands = λ s entry is. (laid.stacks s entry is).frag;
    }

pub write_result_within-requires-clause-certified : goal.write_result_within-requires-clause-certified
write_result_within-requires-clause-certified c =
    c.layouts_are_certified.ensures c.args.flows.now c.layout.new.pool c.layout.new.book c.in_ok-laid.laid.rows
    c.layout.ensures.book c.in_ok-laid.ensures.uses c.in_ok-laid.ensures.rows
