-- What a live id stands for stays the same where the region grows, and where trial nodes above it are given up.
use Rattle.std.proofs.Common.{◌≡◌, List, [], ◌∷◌, Some}
use Rattle.mc_base.specs.PlainTree.{PlainTree, PlainTrees, atom, piece, row_piece, column, no_trees, more_trees}
use Rattle.mc_base.specs.declared.fragment.FragId.{FragId}
use Rattle.mc_base.specs.declared.fragment.FragId.TheVariants.{Kept, Trial}
use Rattle.mc_base.specs.declared.fragment.Node.{Node}
pub use Rattle.frag_pool.specs.Growing.{Grows}
use Rattle.frag_pool.specs.Nodes.{Nodes, node_of}
use Rattle.frag_pool.specs.Standing.{StandsFor, AllStandFor}
use Rattle.frag_pool.proofs.Closed.{get-left}

-- each node of old is in new
pub record Keeps (old new : Nodes) : Type 0 where
  pub node : (id : FragId) (node : Node) → node_of old id ≡ Some node → node_of new id ≡ Some node

mutual
  unfolding StandsFor

  pub stands-along : (old new : Nodes) → Keeps old new → (id : FragId) (tree : PlainTree) → StandsFor old id tree →
      StandsFor new id tree
  stands-along old new keeps id (atom item y) s = keeps.node id _ s
  stands-along old new keeps id (piece owner starts y bottom kids) s =
      (s.0, keeps.node id _ s.1, all-along old new keeps s.0 kids s.2)
  stands-along old new keeps id (row_piece row from y height columns) s =
      (s.0, keeps.node id _ s.1, all-along old new keeps s.0 columns s.2)
  stands-along old new keeps id (column flow from end extent kids) s =
      (s.0, keeps.node id _ s.1, all-along old new keeps s.0 kids s.2)

  pub all-along : (old new : Nodes) → Keeps old new → (ids : List FragId) (trees : PlainTrees) → AllStandFor old ids trees →
      AllStandFor new ids trees
  all-along old new keeps [] no_trees s = s
  all-along old new keeps [] (more_trees first rest) s = s
  all-along old new keeps (id ∷ ids) no_trees s = s
  all-along old new keeps (id ∷ ids) (more_trees first rest) s =
      (stands-along old new keeps id first s.0, all-along old new keeps ids rest s.1)

pub keeps-growing : (old new : Nodes) → Grows old new → Keeps old new
keeps-growing old new grows = record { node = go }
  where
    go : (id : FragId) (node : Node) → node_of old id ≡ Some node → node_of new id ≡ Some node
    go (Kept n) node at = rw grows.kept (get-left old.kept grows.more_kept node n at)
    go (Trial n) node at = rw grows.trial (get-left old.trial grows.more_trial node n at)

pub stands-growing : (old new : Nodes) → Grows old new → (id : FragId) (tree : PlainTree) → StandsFor old id tree →
    StandsFor new id tree
stands-growing old new grows = stands-along old new (keeps-growing old new grows)
