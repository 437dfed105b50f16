-- The pieces of boxes in the tree of a column: each box that continues in the column or starts in it has one piece there, and the
-- pieces stand one in another as the boxes do (CSS Fragmentation 3, section 2: a box that breaks has a fragment in each column
-- that holds some of it).
use Rattle.std.specs.Prelude.{◌≡◌, ℕ, ◌+◌, ◌-◌, ◌≤◌, Bool, true, false, List, [], ◌∷◌, ◌++◌, is_some, length, map, take, drop}
use Rattle.std.specs.Prelude.{Option}
use Rattle.mc_base.specs.PlainTree.{PlainTree, PlainTrees, atom as atom_tree, piece, row_piece, column as column_tree, no_trees}
use Rattle.mc_base.specs.PlainTree.{more_trees}
use Rattle.flow_list.specs.Data.{Flow, FlowsData}
use Rattle.flow_data.specs.Flows.{ends_in, flow_of, is_among, stack_of, starts_in}
use Rattle.flow_data.specs.Soundness.{count_of}
use Rattle.flow_list.specs.Tokens.{Token, IsPlaceBefore, item_number, row_start}
use Rattle.flow_list.specs.Rows.{all_rows}
use Rattle.flow_list.specs.RowHeights.{column_within}
use Rattle.flow_list.specs.Fragments.{continuing, fragment_of, row_fragments, stack_fragment}
use Rattle.flow_laws.specs.Holding.{items_before}
use Rattle.piece_laws.specs.Nesting.{Nest}

-- a piece of a box in a tree, whether the box starts in it, and whether it ends in it: then the piece has a bottom
pub record BoxPiece : Type 0 where
  pub box : ℕ
  pub starts : Bool
  pub ends : Bool

unfoldable mutual
  -- the pieces of boxes in a tree, each before those within it, and not into rows
  pub pieces_in_tree : PlainTree → List BoxPiece
  pieces_in_tree (atom_tree k y) = []
  pieces_in_tree (piece b starts y bottom kids) =
      record { box = b; starts = starts; ends = is_some bottom } ∷ pieces_in_trees kids
  pieces_in_tree (row_piece r from y height columns) = []
  pieces_in_tree (column_tree number from end extent kids) = pieces_in_trees kids

  pub pieces_in_trees : PlainTrees → List BoxPiece
  pieces_in_trees no_trees = []
  pieces_in_trees (more_trees tree trees) = pieces_in_tree tree ++ pieces_in_trees trees

-- the boxes that start between two places, in order: the heads of as many seams stand before a place as items begin before it
abbrev pub starts_between : Flow → Token → Token → List ℕ
starts_between f t u = starts_in (take (items_before u - items_before t) (drop (items_before t) f.seams))

-- the boxes that end between them: the tail of the seam before a place's item stands before the place
abbrev pub ends_between : Flow → Token → Token → List ℕ
ends_between f t u = ends_in (take (item_number u - item_number t) (drop (item_number t + 1) f.seams))

-- the piece of a box that starts there or continues, and that ends there where it is one of these
abbrev pub box_piece : (starts : Bool) → (ending : List ℕ) → ℕ → BoxPiece
box_piece starts ending b = record { box = b; starts = starts; ends = is_among ending b }

-- The boxes that stand between places t and u of flow f have their pieces in this tree.
pub record HasPieces (f : Flow) (t u : Token) (tree : PlainTree) : Type 0 where
  -- they are one for each box that continues at t, the outermost first, and then one for each box that starts between the places,
  -- in order; each has a bottom exactly where its box ends between the places
  pub pieces : pieces_in_tree tree ≡ map (box_piece false (ends_between f t u)) (continuing f t)
      ++ map (box_piece true (ends_between f t u)) (starts_between f t u)
  -- no box has two
  pub once : (b : ℕ) → count_of b (map (λ (p : BoxPiece). p.box) (pieces_in_tree tree)) ≤ 1
  -- they stand one in another as their boxes do
  pub nest : Nest f t u tree

-- The law, of flow f of sound data: the tree of each column has the pieces of what stands between its place and its end.
abbrev pub BoxesHavePieces : FlowsData → (f : ℕ) → Type 0
BoxesHavePieces d f = (t : Token) (h : Option ℕ) → IsPlaceBefore d (flow_of d f) t →
    HasPieces (flow_of d f) t (column_within d (flow_of d f) h t).end
    (fragment_of (row_fragments d (length d.rows)) (all_rows d) d f (flow_of d f) h t)

-- And the tree of a stack has those of its flow from its start to its end.
abbrev pub StackHasPieces : FlowsData → (s : ℕ) → Type 0
StackHasPieces d s =
    let f = flow_of d (stack_of d s).flow in
    HasPieces f row_start (length f.items ∷ []) (stack_fragment d s)
