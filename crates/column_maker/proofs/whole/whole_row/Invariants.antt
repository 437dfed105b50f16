use Rattle.std.proofs.Common.{◌≡◌}
use Rattle.flow_data.specs.Flows.{flow_in}
use Rattle.flow_list.specs.Entries.{uses_in}
use Rattle.flow_list.specs.Rows.{all_rows, left_in}
use Rattle.flow_list.specs.Tokens.{IsPlaceBefore}
use Rattle.frag_pool.specs.Growing.{Grows}
use Rattle.inner_rows.specs.TrueBook.{BookAfter}
use Rattle.column_maker.specs.Wholes.{IsPart}
use Rattle.column_maker.proofs.whole.whole_row.Given as goal

abbrev pub invariant-loop-at : goal.invariant-loop-at
invariant-loop-at g l = record {
  place : IsPlaceBefore l.flows (flow_in l.flows l.row) l.at;
  part : IsPart l.flows l.row l.from l.height (uses_in l.fn.book) l.pool l.columns l.at;
  uses : uses_in l.book ≡ uses_in l.fn.book;
  depth : g.I.InnerRows.depth l.inner ≡ g.I.InnerRows.depth l.fn.inner;
  engine : g.I.InnerRows.is_true l.inner l.flows l.book l.pool;
  book : BookAfter l.flows l.fn.book l.book;
  grown : Grows l.fn.pool l.pool;
}

abbrev pub decreases-loop-at : goal.decreases-loop-at
decreases-loop-at g l = left_in (all_rows l.flows) (flow_in l.flows l.row) l.at
