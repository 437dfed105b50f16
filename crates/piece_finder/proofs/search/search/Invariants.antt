use Rattle.std.proofs.Common.{◌≡◌, ◌-◌}
use Rattle.std.specs.List.{flat_map}
use Rattle.flow_list.specs.Book.{after_uses}
use Rattle.flow_list.specs.Entries.{uses_in}
use Rattle.frag_pool.specs.Nodes.{SameTrial}
use Rattle.inner_rows.specs.TrueBook.{BookAfter}
use Rattle.piece_finder.specs.Telling.{told_ranges}
use Rattle.piece_finder.specs.Using.{range_uses}
use Rattle.piece_finder.proofs.Progress.{Searching}
use Rattle.piece_finder.proofs.search.search.Given as goal

abbrev pub invariant-loop-low : goal.invariant-loop-low
invariant-loop-low g l = record {
  search : Searching l.flows l.row l.from l.height l.low l.ranges;
  uses : uses_in l.book
      ≡ after_uses l.flows (uses_in l.fn.book) (flat_map (range_uses l.flows l.row l.from) (told_ranges l.ranges));
  depth : g.I.InnerRows.depth l.inner ≡ g.I.InnerRows.depth l.fn.inner;
  engine : g.I.InnerRows.is_true l.inner l.flows l.book l.pool;
  book : BookAfter l.flows l.fn.book l.book;
  same : SameTrial l.fn.pool l.pool;
  read : g.C.Tally.read_count l.tally ≡ g.C.Tally.read_count l.fn.tally;
  folds : g.C.Tally.fold_count l.tally ≡ g.C.Tally.fold_count l.fn.tally;
}

abbrev pub decreases-loop-low : goal.decreases-loop-low
decreases-loop-low g l = l.height - l.low
