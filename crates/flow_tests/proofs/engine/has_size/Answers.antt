use Rattle.std.proofs.Common.{◌≡◌, ◌<◌, length, subst, arith}
use Rattle.flow_data.specs.Flows.{flow_of}
use Rattle.flow_data.specs.Soundness.{NestsAtMost}
use Rattle.flow_data.specs.declared.data.RowInfo.{RowInfo}
use Rattle.container_layout.proofs.Numbers.{empty-true}
use Rattle.container_layout.proofs.RowParts.{row-flow}
use Rattle.flow_tests.proofs.engine.has_size.Goals as goal

pub item_count-requires : goal.item_count-requires
item_count-requires c =
    rw c.row_at.ensures.same (row-flow c.args.flows.now c.flow_counts-counts.ensures.sound 1 c.requires)

pub is_size_each_time-requires-clause-book : goal.is_size_each_time-requires-clause-book
is_size_each_time-requires-clause-book c = rw c.new-book.ensures (empty-true c.args.flows.now)

pub is_size_each_time-requires-clause-nests : goal.is_size_each_time-requires-clause-nests
is_size_each_time-requires-clause-nests c = c.flow_counts-counts.ensures.sound.nest_limit 1 c.requires

pub is_size_each_time-requires-clause-engine : goal.is_size_each_time-requires-clause-engine
is_size_each_time-requires-clause-engine c = (
  omega arith,
  rw c.over-engine.ensures.inner (c.two_deep.ensures.engine _ _ _),
  c.over-engine.ensures.fills _ _ _,
)
