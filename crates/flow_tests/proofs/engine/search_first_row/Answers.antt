use Rattle.flow_data.specs.Flows.{flow_in}
use Rattle.container_layout.proofs.Numbers.{empty-true}
use Rattle.container_layout.proofs.RowParts.{inner-nests, start-place}
use Rattle.flow_tests.proofs.engine.search_first_row.Goals as goal

pub least-requires-clause-place : goal.least-requires-clause-place
least-requires-clause-place c = rw c.start-start.ensures (start-place c.args.flows.now (flow_in c.args.flows.now 0))

pub least-requires-clause-nests : goal.least-requires-clause-nests
least-requires-clause-nests c =
    inner-nests c.args.flows.now c.flow_counts-counts.ensures.sound 0 c.requires _ c.two_deep-engine.ensures.depth

pub least-requires-clause-engine : goal.least-requires-clause-engine
least-requires-clause-engine c = c.two_deep-engine.ensures.engine _ _ _

pub least-requires-clause-book : goal.least-requires-clause-book
least-requires-clause-book c = rw c.new-book.ensures (empty-true c.args.flows.now)
