-- The lines of fragments that ids in a region stand for.
use Rattle.std.specs.Prelude.{◌≡◌, ℕ, zero, suc, ◌+◌, ◌<◌, ◌^◌, List, ◌∷◌, [], All, Some, length, slice_get}
use Rattle.mc_base.specs.PlainTree.{PlainTree, PlainTrees, atom as atom_tree, piece, row_piece, column as column_tree, no_trees}
use Rattle.mc_base.specs.PlainTree.{more_trees}
use Rattle.mc_base.specs.declared.fragment.FragId.{FragId}
use Rattle.mc_base.specs.declared.fragment.Node.{Node}
use Rattle.mc_base.specs.declared.fragment.Node.TheVariants.{Atom as NodeAtom, Piece as NodePiece, RowPiece as NodeRow}
use Rattle.mc_base.specs.declared.fragment.Node.TheVariants.{Column as NodeColumn}
use Rattle.flow_list.specs.Data.{AtomKind, FlowsData, Item, RowInfo, Plain, Line, Void, Image, Bounded, Atom, Row}
use Rattle.flow_data.specs.Flows.{flow_of, stack_of, item_of}
use Rattle.flow_list.specs.declared.laid.Laid.{Laid}
use Rattle.flow_list.specs.declared.laid.LaidStack.{LaidStack}
use Rattle.flow_list.specs.Tree.{TreeLine, Frame, stack, extent_of}
use Rattle.flow_list.specs.Tree.{lines_of_tree, lines_of_trees, lines_of_columns, lines_of_column, item_lines}
use Rattle.frag_pool.specs.Nodes.{Nodes}
use Rattle.frag_pool.specs.Standing.{StandsFor, AllStandFor}
use Rattle.tree_lines.specs.declared.place.Place.{Place}
use Rattle.tree_lines.specs.declared.place.RowPlace.{RowPlace}
use Rattle.tree_lines.specs.Standing.{IsAt, IsRowAt}

-- ---- what stands in what

-- a container with a height names a stack
abbrev pub KindIsInside : FlowsData → AtomKind → Type 0
KindIsInside d Plain = Unit {0}
KindIsInside d (Line owner index x w) = Unit {0}
KindIsInside d (Void owner x w) = Unit {0}
KindIsInside d (Image owner x w) = Unit {0}
KindIsInside d (Bounded owner number x) = number < length d.stacks

abbrev pub ItemIsInside : FlowsData → Item → Type 0
ItemIsInside d (Atom height kind) = KindIsInside d kind
ItemIsInside d (Row r) = Unit {0}

unfoldable mutual
  -- a tree of flow f names its items, and boxes and rows that there are
  pub IsInside : FlowsData → (f : ℕ) → PlainTree → Type 0
  IsInside d f (atom_tree k y) = (f < length d.flows) × (k < length (flow_of d f).items) × ItemIsInside d (item_of (flow_of
      d f) k)
  IsInside d f (piece b starts y bottom kids) = (b < length d.boxes) × AreInside d f kids
  IsInside d f (row_piece r from y height columns) = (r < length d.rows) × AreInside d f columns
  IsInside d f (column_tree number from end extent kids) = AreInside d number kids

  pub AreInside : FlowsData → (f : ℕ) → PlainTrees → Type 0
  AreInside d f no_trees = Unit {0}
  AreInside d f (more_trees tree trees) = IsInside d f tree × AreInside d f trees

-- ---- stacks

-- The heights of the stacks that were laid out, and the trees that their fragments stand for: each tree names parts of its flow.
pub record Given (d : FlowsData) (laid : Laid) (p : Nodes) : Type 0 where
  pub heights : ℕ → ℕ
  pub trees : ℕ → PlainTree
  pub count : length laid.stacks ≡ length d.stacks
  pub height : (s : ℕ) (entry : LaidStack) → slice_get laid.stacks s ≡ Some entry → entry.height ≡ heights s
  pub stands : (s : ℕ) (entry : LaidStack) → slice_get laid.stacks s ≡ Some entry → StandsFor p entry.frag (trees s)
  pub inside : (s : ℕ) → s < length d.stacks → IsInside d (stack_of d s).flow (trees s)

-- The lines of stack s of this height and tree, which stands at this depth and place; at most n stacks stand one inside another.
unfoldable pub stack_lines : FlowsData → (heights : ℕ → ℕ) → (trees : ℕ → PlainTree) → (n : ℕ) → (s depth x y : ℕ) → List TreeLine
stack_lines d heights trees zero s depth x y = []
stack_lines d heights trees (suc n) s depth x y =
    record { depth = depth; kind = stack s; x = x; y = y; w = (stack_of d s).w; h = heights s }
    ∷ lines_of_tree d (stack_lines d heights trees n) (flow_of d (stack_of d s).flow) (depth + 1)
    (record { x = x; y = y; w = (stack_of d s).w; h = heights s; extent = extent_of (trees s); bottoms = 0 }) (trees s)

abbrev pub given_lines : {d : FlowsData} {laid : Laid} {p : Nodes} → Given d laid p → (n : ℕ) → (s depth x y : ℕ) → List TreeLine
given_lines {d = d} g n = stack_lines d g.heights g.trees n

-- ---- lines that can be written

-- a line's rectangle has 64 bits
pub record Fits (t : TreeLine) : Type 0 where
  pub x : t.x < 2 ^ 64
  pub y : t.y < 2 ^ 64
  pub w : t.w < 2 ^ 64
  pub h : t.h < 2 ^ 64

-- ---- what ids stand for, and its lines

-- an id stands for this tree, in a frame that stands at this place
pub record Tree (d : FlowsData) (laid : Laid) (p : Nodes) (at : Place) (id : FragId) : Type 0 where
  pub given : Given d laid p
  pub frame : Frame
  pub tree : PlainTree
  pub at_frame : IsAt frame at
  pub stands : StandsFor p id tree

abbrev pub tree_lines : {d : FlowsData} {laid : Laid} {p : Nodes} {at : Place} {id : FragId} → (n : ℕ) →
    Tree d laid p at id → List TreeLine
tree_lines {d = d} {at = at} n t = lines_of_tree d (given_lines t.given n) (flow_of d at.flow) at.depth t.frame t.tree

-- whose lines can be written
pub record TreeFits (d : FlowsData) (laid : Laid) (p : Nodes) (n : ℕ) (at : Place) (id : FragId) : Type 0 where
  pub is : Tree d laid p at id
  pub inside : IsInside d at.flow is.tree
  pub fits : All Fits (tree_lines n is)

-- an item whose lines can be written
pub record ItemFits (d : FlowsData) (laid : Laid) (p : Nodes) (n : ℕ) (at : Place) (k y : ℕ) (item : Item) : Type 0 where
  pub given : Given d laid p
  pub frame : Frame
  pub at_frame : IsAt frame at
  pub inside : ItemIsInside d item
  pub fits : All Fits (item_lines (given_lines given n) at.depth frame k y item)

-- a stack whose lines can be written
pub record StackFits (d : FlowsData) (laid : Laid) (p : Nodes) (n s depth x y : ℕ) : Type 0 where
  pub given : Given d laid p
  pub fits : All Fits (given_lines given n s depth x y)

-- how far a fragment reaches, if it is a column
abbrev pub node_extent : Node → ℕ
node_extent (NodeAtom item y) = 0
node_extent (NodePiece owner starts y bottom kids) = 0
node_extent (NodeRow r from y height columns) = 0
node_extent (NodeColumn flow from end extent kids) = extent

-- these ids stand for these trees
pub record Trees (d : FlowsData) (laid : Laid) (p : Nodes) (at : Place) (ids : List FragId) : Type 0 where
  pub given : Given d laid p
  pub frame : Frame
  pub trees : PlainTrees
  pub at_frame : IsAt frame at
  pub stand : AllStandFor p ids trees

abbrev pub trees_lines : {d : FlowsData} {laid : Laid} {p : Nodes} {at : Place} {ids : List FragId} → (n : ℕ) →
    Trees d laid p at ids
    → List TreeLine
trees_lines {d = d} {at = at} n t = lines_of_trees d (given_lines t.given n) (flow_of d at.flow) at.depth t.frame t.trees

pub record TreesFit (d : FlowsData) (laid : Laid) (p : Nodes) (n : ℕ) (at : Place) (ids : List FragId) : Type 0 where
  pub are : Trees d laid p at ids
  pub inside : AreInside d at.flow are.trees
  pub fit : All Fits (trees_lines n are)

-- an id stands for this tree among the columns of a piece of a row
pub record Column (d : FlowsData) (laid : Laid) (p : Nodes) (at : RowPlace) (id : FragId) : Type 0 where
  pub given : Given d laid p
  pub frame : Frame
  pub row : RowInfo
  pub y : ℕ
  pub height : ℕ
  pub tree : PlainTree
  pub at_frame : IsRowAt frame row y height at
  pub stands : StandsFor p id tree

abbrev pub column_lines : {d : FlowsData} {laid : Laid} {p : Nodes} {at : RowPlace} {id : FragId} → (n i : ℕ) →
    Column d laid p at id
    → List TreeLine
column_lines {d = d} {at = at} n i t = lines_of_column d (given_lines t.given n) t.row at.depth t.frame t.y t.height i t.tree

pub record ColumnFits (d : FlowsData) (laid : Laid) (p : Nodes) (n : ℕ) (at : RowPlace) (i : ℕ) (id : FragId) : Type 0 where
  pub is : Column d laid p at id
  pub flow : ℕ
  pub inside : IsInside d flow is.tree
  pub fits : All Fits (column_lines n i is)

-- these ids stand for these columns of a piece of a row
pub record Columns (d : FlowsData) (laid : Laid) (p : Nodes) (at : RowPlace) (ids : List FragId) : Type 0 where
  pub given : Given d laid p
  pub frame : Frame
  pub row : RowInfo
  pub y : ℕ
  pub height : ℕ
  pub trees : PlainTrees
  pub at_frame : IsRowAt frame row y height at
  pub stand : AllStandFor p ids trees

abbrev pub columns_lines : {d : FlowsData} {laid : Laid} {p : Nodes} {at : RowPlace} {ids : List FragId} → (n i : ℕ) →
    Columns d laid p at ids
    → List TreeLine
columns_lines {d = d} {at = at} n i t = lines_of_columns d (given_lines t.given n) t.row at.depth t.frame t.y t.height i t.trees

pub record ColumnsFit (d : FlowsData) (laid : Laid) (p : Nodes) (n : ℕ) (at : RowPlace) (i : ℕ) (ids : List FragId) : Type 0 where
  pub are : Columns d laid p at ids
  pub flow : ℕ
  pub inside : AreInside d flow are.trees
  pub fit : All Fits (columns_lines n i are)
