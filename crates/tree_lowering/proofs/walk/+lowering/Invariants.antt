-- How deep nodes are still entered, and then how far a call is from entering one.
use Rattle.std.proofs.Common.{◌+◌, ◌*◌, All, drop, take}
use Rattle.frag_pool.specs.Growing.{Grows}
use Rattle.frag_pool.specs.Nodes.{IsLive}
use Rattle.inner_rows.specs.TrueBook.{BookAfter}
use Rattle.tree_lowering.specs.Lower.{AreMadeOf, lower}
use Rattle.tree_lowering.proofs.Meeting.{MetSoFar}
use Rattle.tree_lowering.proofs.walk.+lowering.Given as goal

abbrev pub decreases-lower_tree : goal.decreases-lower_tree
decreases-lower_tree g l = 5 * l.at.depth

abbrev pub decreases-lower_all : goal.decreases-lower_all
decreases-lower_all g l = 5 * l.at.depth + 1

abbrev pub decreases-lower_columns : goal.decreases-lower_columns
decreases-lower_columns g l = 5 * l.at.depth + 2

abbrev pub decreases-lower_cut : goal.decreases-lower_cut
decreases-lower_cut g l = 5 * l.at.depth + 3

abbrev pub decreases-lower_node : goal.decreases-lower_node
decreases-lower_node g l = 5 * l.at.depth + 3

abbrev pub invariant-lower_all-loop-id : goal.invariant-lower_all-loop-id
invariant-lower_all-loop-id g l = record {
  made : AreMadeOf l.initial.pool l.pool (lower l.flows l.flags l.at) (take l.id-index l.ids) l.made;
  live : All (IsLive l.pool) l.made;
  told : MetSoFar l.flows l.flags l.at l.initial.pool (g.L.Lowerer.told l.initial.lowerer) (g.L.Lowerer.told l.lowerer) l.ids
      (drop l.id-index l.ids);
  grown : Grows l.initial.pool l.pool;
  engine : g.L.Lowerer.is_true l.lowerer l.flows l.book l.pool;
  book : BookAfter l.flows l.initial.book l.book;
}
