use Rattle.std.proofs.Common.{◌≡◌, length}
use Rattle.frag_pool.specs.Nodes.{SameTrial}
use Rattle.inner_rows.specs.TrueBook.{AreTrue}
use Rattle.container_layout.specs.Found.{HasFound, rows_of_stacks}
use Rattle.container_layout.proofs.find.find_rows.Given as goal

abbrev pub invariant-loop-number : goal.invariant-loop-number
invariant-loop-number g l = record {
  found : HasFound l.flows (rows_of_stacks l.flows l.number) l.table.items;
  table : length l.table.items ≡ length l.flows.rows;
  depth : g.I.InnerRows.depth l.inner ≡ 2;
  engine : g.I.InnerRows.is_true l.inner l.flows l.book l.pool;
  book : AreTrue l.flows l.book;
  pool : SameTrial l.fn.pool l.pool;
}
