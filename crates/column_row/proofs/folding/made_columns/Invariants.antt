use Rattle.std.proofs.Common.{◌≡◌, ◌≤◌}
use Rattle.flow_data.specs.Flows.{flow_in}
use Rattle.flow_list.specs.Entries.{uses_in}
use Rattle.flow_list.specs.Tokens.{IsPlace}
use Rattle.frag_pool.specs.Growing.{Grows}
use Rattle.inner_rows.specs.TrueBook.{BookAfter}
use Rattle.column_row.specs.Folding.{folding_of}
use Rattle.column_row.proofs.SoFar.{HasMade}
use Rattle.column_row.proofs.folding.made_columns.Given as goal

abbrev pub invariant-loop : goal.invariant-loop
invariant-loop g l = record {
  within : l.counter ≤ l.most;
  made : HasMade l.flows l.row l.from l.height (folding_of l.mode) l.counter l.pool l.told (uses_in l.fn.book) (uses_in l.book)
      (g.C.Tally.read_count l.fn.tally) (g.C.Tally.read_count l.tally);
  place : IsPlace l.flows (flow_in l.flows l.row) l.told.end;
  depth : g.I.InnerRows.depth l.inner ≡ g.I.InnerRows.depth l.fn.inner;
  engine : g.I.InnerRows.is_true l.inner l.flows l.book l.pool;
  book : BookAfter l.flows l.fn.book l.book;
  grown : Grows l.fn.pool l.pool;
  folds : g.C.Tally.fold_count l.tally ≡ g.C.Tally.fold_count l.fn.tally;
}
