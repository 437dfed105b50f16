use Rattle.std.proofs.Common.{◌≡◌, [], length}
use Rattle.frag_pool.specs.Growing.{Grows}
use Rattle.inner_rows.specs.TrueBook.{BookAfter}
use Rattle.row_all.specs.Answered.{AreLoweredStacks}
use Rattle.row_all.proofs.Stacking.{EachParts}
use Rattle.row_all.proofs.stacks.lower_stacks.Given as goal

abbrev pub invariant-loop-number : goal.invariant-loop-number
invariant-loop-number g l = record {
  stacks : AreLoweredStacks l.flows l.flags l.pool l.stacks;
  stack_count : length l.stacks ≡ l.number;
  parts : EachParts l.flows l.flags l.pool l.parts;
  part_count : length l.parts ≡ l.number;
  none : l.engine.parts ≡ [];
  depth : g.I.InnerRows.depth l.engine.rows ≡ 3;
  engine : g.I.InnerRows.is_true l.engine.rows l.flows l.book l.pool;
  book : BookAfter l.flows l.fn.book l.book;
  grown : Grows l.fn.pool l.pool;
}
