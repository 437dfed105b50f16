use Rattle.std.proofs.Common.{◌≡◌, [], length}
use Rattle.flow_list.specs.Certificate.{book_behind}
use Rattle.flow_list.specs.Entries.{uses_in}
use Rattle.frag_pool.specs.Nodes.{SameTrial}
use Rattle.inner_rows.specs.TrueBook.{AreTrue}
use Rattle.container_layout.specs.Found.{HasStanding}
use Rattle.container_layout.specs.Laid.{AreLaidAfter}
use Rattle.container_layout.proofs.Numbers.{rows_to}
use Rattle.container_layout.proofs.Tables.{all_of}
use Rattle.container_layout.proofs.lay.lay_rows.Given as goal

abbrev pub invariant-loop-number : goal.invariant-loop-number
invariant-loop-number g l = record {
  rows : AreLaidAfter l.flows l.pool [] (rows_to l.flows l.number) l.rows;
  stand : HasStanding l.flows l.pool (all_of l.flows) l.stand.items;
  count : length l.stand.items ≡ l.number;
  uses : uses_in l.book ≡ book_behind l.flows [] (rows_to l.flows l.number);
  depth : g.I.InnerRows.depth l.inner ≡ 2;
  engine : g.I.InnerRows.is_true l.inner l.flows l.book l.pool;
  book : AreTrue l.flows l.book;
  pool : SameTrial l.fn.pool l.pool;
}
