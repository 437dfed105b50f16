use Rattle.std.proofs.Common.{◌≡◌, ◌+◌, ◌-◌, ◌<◌, ◌≤◌, false, length}
use Rattle.std.specs.Prelude.{IfSome}
use Rattle.flow_data.specs.Flows.{flow_of}
use Rattle.flow_list.specs.Tokens.{item_number}
use Rattle.frag_pool.specs.Nodes.{SameTrial}
use Rattle.flow_list.specs.Entries.{uses_in}
use Rattle.inner_rows.specs.TrueBook.{BookAfter}
use Rattle.column_strip.specs.Passed.{IsBefore, height_at}
use Rattle.column_strip.specs.Strips.{strip_of}
use Rattle.column_walk.specs.Endings.{place_opt}
use Rattle.column_walk.specs.Stopping.{IsPlaceOf}
use Rattle.column_walk.proofs.Coming.{HasCome}
use Rattle.column_walk.proofs.deciding.decide.Given as goal

abbrev pub invariant-loop-k : goal.invariant-loop-k
invariant-loop-k g l = record {
  come : HasCome l.flows (flow_of l.flows l.flow) l.from l.height l.k l.at (strip_of l.before.strip) (place_opt l.best)
      (place_opt l.last) (uses_in l.fn.book) (uses_in l.book);
  before : IsBefore l.flows (flow_of l.flows l.flow) l.k (height_at l.flows (flow_of l.flows l.flow) l.k l.at) l.before;
  inside : l.k < length (flow_of l.flows l.flow).items;
  start : item_number l.from ≤ l.k;
  place : IsPlaceOf l.flows (flow_of l.flows l.flow) l.k l.at;
  best : IfSome l.best (λ e. e.item ≤ l.k);
  last : IfSome l.last (λ e. (e.item ≡ l.k) × (e.overflow ≡ false));
  depth : g.I.InnerRows.depth l.inner ≡ g.I.InnerRows.depth l.fn.inner;
  engine : g.I.InnerRows.is_true l.inner l.flows l.book l.pool;
  book : BookAfter l.flows l.fn.book l.book;
  pool : SameTrial l.fn.pool l.pool;
  reads : g.C.Tally.read_count l.tally ≤ g.C.Tally.read_count l.fn.tally + (l.k - item_number l.from);
  folds : g.C.Tally.fold_count l.tally ≡ g.C.Tally.fold_count l.fn.tally;
}
