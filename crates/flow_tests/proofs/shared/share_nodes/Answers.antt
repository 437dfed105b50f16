use Rattle.std.proofs.Common.{◌∙◌}
use Rattle.container_layout.proofs.Numbers.{empty-true}
use Rattle.container_layout.proofs.RowParts.{inner-nests}
use Rattle.flow_tests.proofs.shared.share_nodes.Goals as goal

pub ids_at-requires-clause-nests : goal.ids_at-requires-clause-nests
ids_at-requires-clause-nests c =
    inner-nests c.args.flows.now c.flow_counts-counts.ensures.sound 0 c.requires _ c.two_deep-engine.ensures.depth

pub ids_at-requires-clause-engine : goal.ids_at-requires-clause-engine
ids_at-requires-clause-engine c = c.two_deep-engine.ensures.engine _ _ _

pub ids_at-requires-clause-book : goal.ids_at-requires-clause-book
ids_at-requires-clause-book c = rw c.new-book.ensures (empty-true c.args.flows.now)

pub ids_at-requires-2-clause-nests : goal.ids_at-requires-2-clause-nests
ids_at-requires-2-clause-nests c =
    inner-nests c.args.flows.now c.flow_counts-counts.ensures.sound 0 c.requires _
    (c.in_ok-ids.ensures.depth ∙ c.two_deep-engine.ensures.depth)
