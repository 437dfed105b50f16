-- How much is left to walk: the stacks that may stand inside, and then how late the node stands among all of them.
use Rattle.tree_lines.proofs.Sizes.{stack_work, node_work}
use Rattle.frag_pool.proofs.Trees.{rank_of}
use Rattle.tree_lines.proofs.Steps.{Written, WrittenRow}
use Rattle.std.proofs.Common.{◌+◌, ◌*◌, drop}
use Rattle.tree_lines.proofs.walk.+walk.Given as goal

abbrev pub decreases-put_tree : goal.decreases-put_tree
decreases-put_tree l = stack_work l.pool.now l.nested + (4 * rank_of l.pool.now l.id + 2)

abbrev pub decreases-put_trees : goal.decreases-put_trees
decreases-put_trees l = stack_work l.pool.now l.nested + (4 * rank_of l.pool.now l.over + 1)

abbrev pub decreases-put_columns : goal.decreases-put_columns
decreases-put_columns l = stack_work l.pool.now l.nested + (4 * rank_of l.pool.now l.over + 1)

abbrev pub decreases-put_column : goal.decreases-put_column
decreases-put_column l = stack_work l.pool.now l.nested + (4 * rank_of l.pool.now l.id + 2)

abbrev pub decreases-put_item : goal.decreases-put_item
decreases-put_item l = stack_work l.pool.now l.nested + 1

abbrev pub decreases-put_stack : goal.decreases-put_stack
decreases-put_stack l = stack_work l.pool.now l.nested + node_work l.pool.now

abbrev pub invariant-put_trees-loop-id : goal.invariant-put_trees-loop-id
invariant-put_trees-loop-id l = Written l.flows l.laid l.pool l.nested l.at l.ids (drop l.id-index l.ids) l.initial.out l.out

abbrev pub invariant-put_columns-loop-i : goal.invariant-put_columns-loop-i
invariant-put_columns-loop-i l = WrittenRow l.flows l.laid l.pool l.nested l.i l.at l.ids (drop l.i l.ids) l.initial.out l.out
