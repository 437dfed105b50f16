use Rattle.row_all.proofs.whole.layout_all.Goals as goal

pub lower_layout-requires-clause-engine : goal.lower_layout-requires-clause-engine
lower_layout-requires-clause-engine c = c.three_deep.ensures.engine c.args.flows.now c.args.book.now c.args.pool.now
