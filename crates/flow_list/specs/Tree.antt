-- The tree of a layout: a line for each stack, row, column, box and item, with its rectangle from the document's top left (this
-- project's own; places and sizes are those of CSS 2.1, chapter 10, and CSS Multi-column 1, section 3.4).
use Rattle.std.specs.Prelude.{ℕ, zero, suc, ◌+◌, ◌-◌, ◌*◌, max, Bool, List, [], ◌∷◌, ◌++◌, length, Option, Some, None, is_some}
use Rattle.mc_base.specs.PlainTree.{PlainTree, PlainTrees, atom as atom_tree, piece, row_piece, column as column_tree, no_trees}
use Rattle.mc_base.specs.PlainTree.{more_trees}
use Rattle.flow_list.specs.Data.{AtomKind, Flow, FlowsData, Item, RowInfo, Plain, Line, Void, Image, Bounded, Atom, Row}
use Rattle.flow_data.specs.Flows.{box_of, row_of, flow_of, stack_of, item_of}
use Rattle.flow_list.specs.Tokens.{Token}
use Rattle.flow_list.specs.Stacks.{stack_height}
use Rattle.flow_list.specs.Fragments.{stack_fragment}

-- what a line of the tree is of
pub data TreeKind : Type 0 where
  stack : (number : ℕ) → TreeKind
  row : (number : ℕ) (from : Token) → TreeKind
  col : (index : ℕ) → TreeKind
  box : (owner : ℕ) (starts ends : Bool) → TreeKind
  line : (owner index : ℕ) → TreeKind
  void : (owner : ℕ) → TreeKind
  image : (owner : ℕ) → TreeKind
  atom : (item : ℕ) → TreeKind

-- a line of the tree: how deep it stands, what it is of, and its rectangle
pub record TreeLine : Type 0 where
  pub depth : ℕ
  pub kind : TreeKind
  pub x : ℕ
  pub y : ℕ
  pub w : ℕ
  pub h : ℕ

-- how wide the columns that a row has are with the gaps between them
abbrev pub row_width : RowInfo → ℕ
row_width r = (r.n - 1) * r.step + r.w

-- Where a column stands: its left and top, its width and height, and how far its content reaches; then what the boxes have below
-- again in which something stands.
pub record Frame : Type 0 where
  pub x : ℕ
  pub y : ℕ
  pub w : ℕ
  pub h : ℕ
  pub extent : ℕ
  pub bottoms : ℕ

abbrev pub in_box : Frame → ℕ → Frame
in_box frame bottom = record frame { bottoms = frame.bottoms + bottom }

-- The bottom of a piece of a box, from the column's top: its end; or, where the box continues, that of the column or of what
-- reaches further, above the lower cloned edges of the boxes around it.
abbrev pub piece_bottom : Frame → Option ℕ → ℕ
piece_bottom frame None = max frame.h frame.extent - frame.bottoms
piece_bottom frame (Some bottom) = bottom

-- the height of a piece of a row: its own, or what the column has left below its top, where it is filled
abbrev pub piece_height : Frame → (y : ℕ) → Option ℕ → ℕ
piece_height frame y None = frame.h - y - frame.bottoms
piece_height frame y (Some height) = height

-- the lines of an atom: the inside of a container with a height is a stack of its own
abbrev pub atom_lines : (ℕ → ℕ → ℕ → ℕ → List TreeLine) → ℕ → Frame → ℕ → ℕ → (height : ℕ) → AtomKind → List TreeLine
atom_lines stacks depth frame k y height Plain =
    record { depth = depth; kind = atom k; x = frame.x; y = frame.y + y; w = frame.w; h = height } ∷ []
atom_lines stacks depth frame k y height (Line owner index x w) =
    record { depth = depth; kind = line owner index; x = frame.x + x; y = frame.y + y; w = w; h = height } ∷ []
atom_lines stacks depth frame k y height (Void owner x w) =
    record { depth = depth; kind = void owner; x = frame.x + x; y = frame.y + y; w = w; h = height } ∷ []
atom_lines stacks depth frame k y height (Image owner x w) =
    record { depth = depth; kind = image owner; x = frame.x + x; y = frame.y + y; w = w; h = height } ∷ []
atom_lines stacks depth frame k y height (Bounded owner number x) = stacks number depth (frame.x + x) (frame.y + y)

abbrev pub item_lines : (ℕ → ℕ → ℕ → ℕ → List TreeLine) → ℕ → Frame → ℕ → ℕ → Item → List TreeLine
item_lines stacks depth frame k y (Atom height kind) = atom_lines stacks depth frame k y height kind
item_lines stacks depth frame k y (Row r) = []

-- where column i of a piece of a row stands
abbrev pub column_frame : Frame → RowInfo → (y height i extent : ℕ) → Frame
column_frame frame r y height i extent =
    record { x = frame.x + r.x + i * r.step; y = frame.y + y; w = r.w; h = height; extent = extent; bottoms = 0 }

unfoldable mutual
  -- the lines of a tree that stands in a column of flow f
  pub lines_of_tree : FlowsData → (ℕ → ℕ → ℕ → ℕ → List TreeLine) → Flow → ℕ → Frame → PlainTree → List TreeLine
  lines_of_tree d stacks f depth frame (atom_tree k y) = item_lines stacks depth frame k y (item_of f k)
  lines_of_tree d stacks f depth frame (piece b starts y bottom kids) =
      record {
        depth = depth;
        kind = box b starts (is_some bottom);
        x = frame.x + (box_of d b).x;
        y = frame.y + y;
        w = (box_of d b).w;
        h = piece_bottom frame bottom - y;
      }
      ∷ lines_of_trees d stacks f (depth + 1) (in_box frame (box_of d b).bottom) kids
  lines_of_tree d stacks f depth frame (row_piece r from y height columns) =
      record {
        depth = depth;
        kind = row r from;
        x = frame.x + (row_of d r).x;
        y = frame.y + y;
        w = row_width (row_of d r);
        h = piece_height frame y height;
      }
      ∷ lines_of_columns d stacks (row_of d r) depth frame y (piece_height frame y height) 0 columns
  lines_of_tree d stacks f depth frame (column_tree number from end extent kids) =
      lines_of_trees d stacks (flow_of d number) depth frame kids

  pub lines_of_trees : FlowsData → (ℕ → ℕ → ℕ → ℕ → List TreeLine) → Flow → ℕ → Frame → PlainTrees → List TreeLine
  lines_of_trees d stacks f depth frame no_trees = []
  lines_of_trees d stacks f depth frame (more_trees tree trees) =
      lines_of_tree d stacks f depth frame tree ++ lines_of_trees d stacks f depth frame trees

  -- the lines of the columns of a piece of a row, from column i on: each stands a step to the right of the one before
  pub lines_of_columns : FlowsData → (ℕ → ℕ → ℕ → ℕ → List TreeLine) → RowInfo → ℕ → Frame → (y height i : ℕ) → PlainTrees
      → List TreeLine
  lines_of_columns d stacks r depth frame y height i no_trees = []
  lines_of_columns d stacks r depth frame y height i (more_trees tree trees) =
      lines_of_column d stacks r depth frame y height i tree ++ lines_of_columns d stacks r depth frame y height (i + 1) trees

  pub lines_of_column : FlowsData → (ℕ → ℕ → ℕ → ℕ → List TreeLine) → RowInfo → ℕ → Frame → (y height i : ℕ) → PlainTree
      → List TreeLine
  lines_of_column d stacks r depth frame y height i (atom_tree k z) = []
  lines_of_column d stacks r depth frame y height i (piece b starts z bottom kids) = []
  lines_of_column d stacks r depth frame y height i (row_piece s from z own columns) = []
  lines_of_column d stacks r depth frame y height i (column_tree number from end extent kids) =
      let here = column_frame frame r y height i extent in
      record { depth = depth + 1; kind = col i; x = here.x; y = here.y; w = here.w; h = here.h }
      ∷ lines_of_trees d stacks (flow_of d number) (depth + 2) here kids

abbrev pub extent_of : PlainTree → ℕ
extent_of (atom_tree k y) = 0
extent_of (piece b starts y bottom kids) = 0
extent_of (row_piece r from y height columns) = 0
extent_of (column_tree number from end extent kids) = extent

-- the lines of stack s, which stands at this depth and place; at most n stacks stand one inside another
unfoldable pub lines_of_stack : FlowsData → (n : ℕ) → (s depth x y : ℕ) → List TreeLine
lines_of_stack d zero s depth x y = []
lines_of_stack d (suc n) s depth x y =
    let tree = stack_fragment d s in
    let height = stack_height d s in
    record { depth = depth; kind = stack s; x = x; y = y; w = (stack_of d s).w; h = height }
    ∷ lines_of_tree d (lines_of_stack d n) (flow_of d (stack_of d s).flow) (depth + 1)
    (record { x = x; y = y; w = (stack_of d s).w; h = height; extent = extent_of tree; bottoms = 0 }) tree

-- the tree of a layout: the lines of stack 0, a further stack having the greater number where it stands in another one
unfoldable pub tree_of : FlowsData → List TreeLine
tree_of d = lines_of_stack d (length d.stacks) 0 0 0 0
