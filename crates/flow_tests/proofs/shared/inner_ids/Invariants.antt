use Rattle.std.specs.Prelude.{All}
use Rattle.frag_pool.specs.Nodes.{IsLive}
use Rattle.flow_tests.proofs.shared.inner_ids.Given as goal

abbrev pub invariant-loop-id : goal.invariant-loop-id
invariant-loop-id l = All (IsLive l.pool) l.inner.items
