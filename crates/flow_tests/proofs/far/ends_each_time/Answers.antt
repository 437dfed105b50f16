use Rattle.std.proofs.Common.{◌∙◌}
use Rattle.frag_pool.proofs.Growth.{given-up-kept}
use Rattle.inner_rows.proofs.Calls.{extends-refl}
use Rattle.flow_tests.proofs.far.ends_each_time.Goals as goal

pub loop-preserved : goal.loop-preserved
loop-preserved g c = record {
  depth = c.in_ok-made.ensures.depth ∙ c.loop.invariant.depth;
  engine = g.met.I.InnerRows.stays c.column.new.inner c.args.flows.now c.column.new.book c.column.new.book c.column.new.pool
      c.release.new.self c.in_ok-made.ensures.engine (extends-refl _) (given-up-kept _ _ _ c.release.ensures.back);
  book = c.in_ok-made.ensures.book.is_true;
}
