use Rattle.std.proofs.Common.{◌≡◌, List, ◌++◌, length}
use Rattle.flow_data.specs.Flows.{flow_of}
use Rattle.flow_list.specs.Certificate.{StackRow}
use Rattle.flow_list.specs.Stacks.{stack_strip}
use Rattle.column_strip.specs.Strips.{strip_of}
use Rattle.frag_pool.specs.Nodes.{SameTrial}
use Rattle.inner_rows.specs.TrueBook.{BookAfter}
use Rattle.container_layout.specs.Found.{HasFound, rows_before}
use Rattle.container_layout.proofs.Tables.{all_of}
use Rattle.container_layout.proofs.find.find_left.Given as goal

abbrev pub invariant-loop-k : goal.invariant-loop-k
invariant-loop-k g l =
    let f = flow_of l.flows l.stack.flow in
    record {
      found : (rows more : List StackRow) → all_of l.flows ≡ (rows ++ rows_before l.flows l.stack.bound f (length f.items)) ++
          more →
          HasFound l.flows rows l.fn.table.items → HasFound l.flows (rows ++ rows_before l.flows l.stack.bound f l.k)
          l.table.items;
      table : length l.table.items ≡ length l.flows.rows;
      strip : strip_of l.strip ≡ stack_strip l.flows l.stack.bound f l.k;
      depth : g.I.InnerRows.depth l.inner ≡ 2;
      engine : g.I.InnerRows.is_true l.inner l.flows l.book l.pool;
      book : BookAfter l.flows l.fn.book l.book;
      pool : SameTrial l.fn.pool l.pool;
    }
