use Rattle.std.proofs.Common.{◌≡◌}
use Rattle.inner_rows.specs.TrueBook.{AreTrue}
use Rattle.flow_tests.proofs.far.ends_each_time.Given as goal

abbrev pub invariant-loop : goal.invariant-loop
invariant-loop g l = record {
  depth : g.I.InnerRows.depth l.inner ≡ g.I.InnerRows.depth l.initial.inner;
  engine : g.I.InnerRows.is_true l.inner l.flows l.book l.pool;
  book : AreTrue l.flows l.book;
}
