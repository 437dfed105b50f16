-- How the pieces of boxes stand one in another in a column: its tree is walked, into each piece and out of it again (CSS
-- Fragmentation 3, section 2: a box that breaks has a fragment in each column that holds some of it).
use Rattle.std.specs.Prelude.{◌≡◌, ℕ, ◌+◌, Bool, true, false, List, [], ◌∷◌, ◌++◌, drop, flat_map, is_some, length, map, reverse}
use Rattle.std.specs.Prelude.{take}
use Rattle.mc_base.specs.PlainTree.{PlainTree, PlainTrees, atom as atom_tree, piece, row_piece, column as column_tree, no_trees}
use Rattle.mc_base.specs.PlainTree.{more_trees}
use Rattle.flow_list.specs.Data.{Edge, Flow, Seam, Margin, Solid, Wall, Start, End}
use Rattle.flow_data.specs.Flows.{seam_of}
use Rattle.flow_list.specs.Tokens.{Token}
use Rattle.flow_list.specs.Fragments.{continuing}

-- A crossing: into a box, which starts there or continues from an earlier column, or out of it, where it ends or continues in a
-- later one.
pub data Crossing : Type 0 where
  into : (box : ℕ) (starts : Bool) → Crossing
  out_of : (box : ℕ) (ends : Bool) → Crossing

unfoldable mutual
  -- The walk of a tree: into each piece of a box, through what stands in it, and out of it. The box ends in a piece that has a
  -- bottom. Rows are passed by.
  pub walk_of_tree : PlainTree → List Crossing
  walk_of_tree (atom_tree k y) = []
  walk_of_tree (piece b starts y bottom kids) = into b starts ∷ (walk_of_trees kids ++ out_of b (is_some bottom) ∷ [])
  walk_of_tree (row_piece r from y height columns) = []
  walk_of_tree (column_tree number from end extent kids) = walk_of_trees kids

  pub walk_of_trees : PlainTrees → List Crossing
  walk_of_trees no_trees = []
  walk_of_trees (more_trees tree trees) = walk_of_tree tree ++ walk_of_trees trees

-- the edges that stand before a place, in order: up to the tail of the seam before its item; within a row the head too
abbrev pub edges_before : Flow → Token → List Edge
edges_before f [] = []
edges_before f (k ∷ []) = flat_map (λ (s : Seam). s.tail ++ s.head) (take k f.seams) ++ (seam_of f k).tail
edges_before f (k ∷ (j ∷ rest)) = flat_map (λ (s : Seam). s.tail ++ s.head) (take (k + 1) f.seams)

-- the start or the end of a box that an edge is
abbrev pub crossing_at : Edge → List Crossing
crossing_at (Margin m) = []
crossing_at (Solid a) = []
crossing_at Wall = []
crossing_at (Start b) = into b true ∷ []
crossing_at (End b) = out_of b true ∷ []

abbrev pub crossings : List Edge → List Crossing
crossings edges = flat_map crossing_at edges

-- the starts and ends of boxes before a place, and those between two places: before the second and not before the first
abbrev pub crossings_before : Flow → Token → List Crossing
crossings_before f t = crossings (edges_before f t)

abbrev pub crossings_between : Flow → Token → Token → List Crossing
crossings_between f t u = drop (length (crossings_before f t)) (crossings_before f u)

-- into a piece of a box that continues from an earlier column, and out of one whose box continues in a later one
abbrev pub continued_into : ℕ → Crossing
continued_into b = into b false

abbrev pub continued_out : ℕ → Crossing
continued_out b = out_of b false

-- In this tree the pieces of what stands between places t and u of flow f stand one in another as their boxes do. Its walk goes
-- into the boxes that continue at t, the outermost first; then it crosses the starts and ends of boxes between the places, in
-- order; then it goes out of the boxes that continue at u, the innermost first. So each piece stands in that of the innermost box
-- around its own box, and a piece is left with a bottom exactly where its box ends.
abbrev pub Nest : Flow → (t u : Token) → PlainTree → Type 0
Nest f t u tree = walk_of_tree tree ≡ map continued_into (continuing f t)
    ++ (crossings_between f t u ++ map continued_out (reverse (continuing f u)))
