use Rattle.std.proofs.Common.{◌≡◌, ◌+◌, ◌-◌, ◌≤◌, length}
use Rattle.std.specs.List.{flat_map}
use Rattle.flow_list.specs.Book.{after_uses}
use Rattle.flow_list.specs.Certificate.{range_uses}
use Rattle.flow_list.specs.Entries.{uses_in}
use Rattle.flow_list.specs.RowHeights.{size_of}
use Rattle.frag_pool.specs.Nodes.{SameTrial}
use Rattle.inner_rows.specs.TrueBook.{BookAfter}
use Rattle.balancer.specs.Cost.{ranges_cost}
use Rattle.balancer.proofs.Progress.{Searching}
use Rattle.balancer.proofs.search.search.Given as goal

abbrev pub invariant-loop-alloc : goal.invariant-loop-alloc
invariant-loop-alloc g l = record {
  search : Searching l.flows l.row l.from l.fn.available l.low l.ranges;
  uses : uses_in l.book ≡ after_uses l.flows (uses_in l.fn.book) (flat_map (range_uses l.flows l.row l.from) l.ranges);
  depth : g.I.InnerRows.depth l.inner ≡ g.I.InnerRows.depth l.fn.inner;
  engine : g.I.InnerRows.is_true l.inner l.flows l.book l.pool;
  book : BookAfter l.flows l.fn.book l.book;
  same : SameTrial l.fn.pool l.pool;
  folds : g.C.Tally.fold_count l.tally ≤ g.C.Tally.fold_count l.fn.tally + length l.ranges;
  reads : g.C.Tally.read_count l.tally ≤ g.C.Tally.read_count l.fn.tally + ranges_cost l.flows l.row l.from l.ranges;
}

abbrev pub decreases-loop-alloc : goal.decreases-loop-alloc
decreases-loop-alloc g l = size_of l.flows l.row l.from - l.low
