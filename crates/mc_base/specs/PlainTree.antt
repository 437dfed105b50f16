-- What a fragment is, with all that stands in it: fragments in a region name each other by number, and this is the tree
-- that such a number stands for. Heights and places are in units, from the top of the column that the fragment stands in.
use Rattle.std.specs.Prelude.{ℕ, Bool, List, [], ◌∷◌, Option}

mutual
  pub data PlainTree : Type 0 where
    -- an atom: its item, and where it stands
    atom : (item y : ℕ) → PlainTree
    -- a piece of a box: whether the box starts in it, its top, its bottom unless the box continues, and what stands in it
    piece : (owner : ℕ) (starts : Bool) (y : ℕ) (bottom : Option ℕ) (kids : PlainTrees) → PlainTree
    -- a piece of a row from a place on: its top, its height unless the row is filled, and its columns
    row_piece : (row : ℕ) (from : List ℕ) (y : ℕ) (height : Option ℕ) (columns : PlainTrees) → PlainTree
    -- a column of a flow: the places where it begins and ends, its extent, and what stands in it
    column : (flow : ℕ) (from end : List ℕ) (extent : ℕ) (kids : PlainTrees) → PlainTree

  pub data PlainTrees : Type 0 where
    no_trees : PlainTrees
    more_trees : (first : PlainTree) (rest : PlainTrees) → PlainTrees

-- these trees, in order
abbrev pub plain_trees : List PlainTree → PlainTrees
plain_trees [] = no_trees
plain_trees (tree ∷ trees) = more_trees tree (plain_trees trees)
