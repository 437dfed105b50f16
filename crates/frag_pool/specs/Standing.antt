-- The plain tree that a live id stands for: its node, with plain trees in place of ids.
use Rattle.std.specs.Prelude.{◌≡◌, List, [], ◌∷◌, Some}
use Rattle.mc_base.specs.PlainTree.{PlainTree, PlainTrees, atom, piece, row_piece, column, no_trees, more_trees}
use Rattle.mc_base.specs.declared.fragment.FragId.{FragId}
use Rattle.mc_base.specs.declared.fragment.Node.TheVariants.{Atom, Piece, RowPiece, Column}
use Rattle.frag_pool.specs.Nodes.{Nodes, node_of}

-- By recursion on the tree, so that nothing needs to bound it.
unfoldable mutual
  pub StandsFor : Nodes → FragId → PlainTree → Type 0
  StandsFor p id (atom item y) = node_of p id ≡ Some (Atom item y)
  StandsFor p id (piece owner starts y bottom kids) =
      (ids : List FragId) × (node_of p id ≡ Some (Piece owner starts y bottom ids)) × AllStandFor p ids kids
  StandsFor p id (row_piece row from y height columns) =
      (ids : List FragId) × (node_of p id ≡ Some (RowPiece row from y height ids)) × AllStandFor p ids columns
  StandsFor p id (column flow from end extent kids) =
      (ids : List FragId) × (node_of p id ≡ Some (Column flow from end extent ids)) × AllStandFor p ids kids

  pub AllStandFor : Nodes → List FragId → PlainTrees → Type 0
  AllStandFor p [] no_trees = Unit {0}
  AllStandFor p [] (more_trees first rest) = ⊥
  AllStandFor p (id ∷ ids) no_trees = ⊥
  AllStandFor p (id ∷ ids) (more_trees first rest) = StandsFor p id first × AllStandFor p ids rest

-- the node of new that has this id is equal, all the way down, to the one of old that has that id
abbrev pub Equals : (old : Nodes) → FragId → (new : Nodes) → FragId → Type 0
Equals old id new made = (tree : PlainTree) → StandsFor old id tree → StandsFor new made tree
