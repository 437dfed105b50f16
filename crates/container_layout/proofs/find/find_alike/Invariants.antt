use Rattle.std.proofs.Common.{◌≡◌, List, ◌++◌, length}
use Rattle.flow_data.specs.Flows.{flow_of}
use Rattle.flow_list.specs.Certificate.{StackRow}
use Rattle.container_layout.specs.Found.{HasFound, rows_before}
use Rattle.container_layout.proofs.Tables.{all_of}
use Rattle.container_layout.proofs.find.find_alike.Given as goal

abbrev pub invariant-loop-k : goal.invariant-loop-k
invariant-loop-k l =
    let f = flow_of l.flows l.stack.flow in
    record {
      found : (rows more : List StackRow) → all_of l.flows ≡ (rows ++ rows_before l.flows l.stack.bound f (length f.items)) ++
          more →
          HasFound l.flows rows l.fn.table.items → HasFound l.flows (rows ++ rows_before l.flows l.stack.bound f l.k)
          l.table.items;
      table : length l.table.items ≡ length l.flows.rows;
    }
