use Rattle.flow_data.specs.Flows.{flow_in}
use Rattle.frag_pool.proofs.Growth.{stands-live}
use Rattle.container_layout.proofs.RowParts.{start-place}
use Rattle.flow_tests.proofs.shared.ids_at.Goals as goal

pub fold-requires-clause-place : goal.fold-requires-clause-place
fold-requires-clause-place g c = rw c.start-start.ensures (start-place c.args.flows.now (flow_in c.args.flows.now 0))

pub ids_in_columns-requires : goal.ids_in_columns-requires
ids_in_columns-requires g c = stands-live c.fold.new.pool c.in_ok-made.made.frag _ c.in_ok-made.ensures.frag
