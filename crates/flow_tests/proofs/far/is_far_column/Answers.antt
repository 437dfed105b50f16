use Rattle.std.proofs.Common.{arith}
use Rattle.column_row.proofs.SoFar.{some-items}
use Rattle.container_layout.proofs.Numbers.{empty-true}
use Rattle.container_layout.proofs.RowParts.{inner-nests, row-flow}
use Rattle.flow_tests.proofs.far.is_far_column.Goals as goal

pub item_count-requires : goal.item_count-requires
item_count-requires c =
    rw c.row_at.ensures.same (row-flow c.args.flows.now c.flow_counts-counts.ensures.sound 0 c.requires)

pub ends_each_time-requires-clause-flow : goal.ends_each_time-requires-clause-flow
ends_each_time-requires-clause-flow c =
    rw c.row_at.ensures.same (row-flow c.args.flows.now c.flow_counts-counts.ensures.sound 0 c.requires)

pub ends_each_time-requires-clause-place : goal.ends_each_time-requires-clause-place
ends_each_time-requires-clause-place c = rw c.start-from.ensures (omega arith)

pub ends_each_time-requires-clause-nests : goal.ends_each_time-requires-clause-nests
ends_each_time-requires-clause-nests c =
    rw c.row_at.ensures.same (inner-nests c.args.flows.now c.flow_counts-counts.ensures.sound 0 c.requires _
    c.two_deep-engine.ensures.depth)

pub ends_each_time-requires-clause-some : goal.ends_each_time-requires-clause-some
ends_each_time-requires-clause-some c =
    rw c.row_at.ensures.same (some-items c.args.flows.now c.flow_counts-counts.ensures.sound 0 c.requires)

pub ends_each_time-requires-clause-engine : goal.ends_each_time-requires-clause-engine
ends_each_time-requires-clause-engine c = c.two_deep-engine.ensures.engine _ _ _

pub ends_each_time-requires-clause-book : goal.ends_each_time-requires-clause-book
ends_each_time-requires-clause-book c = rw c.new-book.ensures (empty-true c.args.flows.now)
