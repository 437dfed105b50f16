-- The tree of a layout in which each cut piece of a flagged row is as low as it can be (this project's own): from the outermost
-- piece inward, what follows a piece in its column stays where it is.
use Rattle.std.specs.Prelude.{ℕ, zero, suc, ◌+◌, ◌-◌, ◌==◌, Bool, true, false, cond, List, [], ◌∷◌, ◌++◌, get_or, length, map}
use Rattle.std.specs.Prelude.{Option}
use Rattle.std.specs.Prelude.{Some, None, fold}
use Rattle.mc_base.specs.PlainTree.{PlainTree, PlainTrees, plain_trees, atom as atom_tree, piece, row_piece}
use Rattle.mc_base.specs.PlainTree.{column as column_tree}
use Rattle.mc_base.specs.PlainTree.{no_trees, more_trees}
use Rattle.flow_data.specs.Flows.{box_of, row_of, flow_of, flow_in, stack_of, item_of}
use Rattle.flow_list.specs.Certificate.{StackRow, rows_in_stacks}
use Rattle.flow_list.specs.Data.{AtomKind, FlowsData, Item, Plain, Line, Void, Image, Bounded, Atom, Row}
use Rattle.flow_list.specs.Fragments.{column_fragment, fragments_from, stack_fragment}
use Rattle.flow_list.specs.RowHeights.{fill_limit}
use Rattle.flow_list.specs.Rows.{all_rows, columns}
use Rattle.flow_list.specs.Stacks.{stack_height}
use Rattle.flow_list.specs.Tokens.{Token}
use Rattle.flow_list.specs.Tree.{TreeLine, stack, lines_of_tree, extent_of}
use Rattle.piece_data.specs.LeastPiece.{least_height}

-- which rows are flagged, by their numbers
abbrev pub Flags : Type 0
Flags = List Bool

abbrev pub is_flagged : Flags → ℕ → Bool
is_flagged flags r = get_or flags r false

-- The height that the columns of a row are made at, which stands with this height outside any columns: its own; or what is
-- available to it, with `column-fill: auto`.
abbrev pub made_height : FlowsData → (r height : ℕ) → ℕ
made_height d r height = cond (row_of d r).auto
    (fold (λ found (s : StackRow). cond (s.row == r) (fill_limit s.available) found) height (rows_in_stacks d)) height

-- the columns that row r makes of height h from a place on
abbrev pub columns_at : FlowsData → (r : ℕ) → (q : Token) → (h : ℕ) → PlainTrees
columns_at d r q h =
    plain_trees (fragments_from (column_fragment d r (Some h)) q (columns (all_rows d) d (flow_in d r) (row_of d r).n q h))

-- ---- trees

-- Trees that stand in a column of this height, less what the boxes around them have below again. What stands in a piece that
-- gets other columns is told by inside: the trees of row r from a place on at a height.
unfoldable mutual
  pub lowered_in : FlowsData → Flags → (inside : ℕ → Token → ℕ → PlainTrees) → (room : ℕ) → PlainTree → PlainTree
  lowered_in d flags inside room (atom_tree k y) = atom_tree k y
  lowered_in d flags inside room (piece b starts y bottom kids) =
      piece b starts y bottom (all_lowered_in d flags inside (room - (box_of d b).bottom) kids)
  lowered_in d flags inside room (row_piece r from y None cols) = cond (is_flagged flags r)
      (row_piece r from y (Some (least_height d r from (room - y))) (inside r from (least_height d r from (room - y))))
      (row_piece r from y None (all_lowered_in d flags inside (room - y) cols))
  lowered_in d flags inside room (row_piece r from y (Some height) cols) =
      row_piece r from y (Some height) (all_lowered_in d flags inside (made_height d r height) cols)
  lowered_in d flags inside room (column_tree number from end extent kids) =
      column_tree number from end extent (all_lowered_in d flags inside room kids)

  pub all_lowered_in : FlowsData → Flags → (inside : ℕ → Token → ℕ → PlainTrees) → (room : ℕ) → PlainTrees → PlainTrees
  all_lowered_in d flags inside room no_trees = no_trees
  all_lowered_in d flags inside room (more_trees tree trees) =
      more_trees (lowered_in d flags inside room tree) (all_lowered_in d flags inside room trees)

-- the columns that row r makes of a height from a place on, with the pieces in them lowered; at most n flagged rows stand one
-- inside another
unfoldable pub columns_lowered : FlowsData → Flags → (n : ℕ) → (r : ℕ) → (q : Token) → (h : ℕ) → PlainTrees
columns_lowered d flags zero r q h = columns_at d r q h
columns_lowered d flags (suc n) r q h = all_lowered_in d flags (columns_lowered d flags n) h (columns_at d r q h)

-- a tree in a column with this room, with all its flagged pieces lowered
abbrev pub lowered : FlowsData → Flags → (room : ℕ) → PlainTree → PlainTree
lowered d flags room tree = lowered_in d flags (columns_lowered d flags (length d.rows)) room tree

-- the fragment of a stack with its pieces lowered
unfoldable pub stack_lowered : FlowsData → Flags → (s : ℕ) → PlainTree
stack_lowered d flags s = lowered d flags (stack_height d s) (stack_fragment d s)

-- the lines of stack s with its pieces lowered; at most n stacks stand one inside another
unfoldable pub lines_of_lowered : FlowsData → Flags → (n : ℕ) → (s depth x y : ℕ) → List TreeLine
lines_of_lowered d flags zero s depth x y = []
lines_of_lowered d flags (suc n) s depth x y =
    let tree = stack_lowered d flags s in
    let height = stack_height d s in
    record { depth = depth; kind = stack s; x = x; y = y; w = (stack_of d s).w; h = height }
    ∷ lines_of_tree d (lines_of_lowered d flags n) (flow_of d (stack_of d s).flow) (depth + 1)
    (record { x = x; y = y; w = (stack_of d s).w; h = height; extent = extent_of tree; bottoms = 0 }) tree

-- the tree of a layout in which all flagged pieces are lowered
unfoldable pub lowered_tree : FlowsData → Flags → List TreeLine
lowered_tree d flags = lines_of_lowered d flags (length d.stacks) 0 0 0 0

-- ---- the pieces that are lowered

-- a cut piece of a row: where it begins, and the height that it is cut at
pub record CutPiece : Type 0 where
  pub row : ℕ
  pub from : Token
  pub height : ℕ

-- those in a stack inside a container with a height
abbrev pub pieces_of_kind : (stacks : ℕ → List CutPiece) → AtomKind → List CutPiece
pieces_of_kind stacks Plain = []
pieces_of_kind stacks (Line owner index x w) = []
pieces_of_kind stacks (Void owner x w) = []
pieces_of_kind stacks (Image owner x w) = []
pieces_of_kind stacks (Bounded owner number x) = stacks number

abbrev pub pieces_of_item : (stacks : ℕ → List CutPiece) → Item → List CutPiece
pieces_of_item stacks (Atom height kind) = pieces_of_kind stacks kind
pieces_of_item stacks (Row r) = []

-- The flagged pieces in a tree of flow f, in order: each before those in its columns at its least height.
unfoldable mutual
  pub pieces_in : FlowsData → Flags → (stacks : ℕ → List CutPiece) → (inside : ℕ → Token → ℕ → List CutPiece)
      → (f room : ℕ) → PlainTree → List CutPiece
  pieces_in d flags stacks inside f room (atom_tree k y) = pieces_of_item stacks (item_of (flow_of d f) k)
  pieces_in d flags stacks inside f room (piece b starts y bottom kids) =
      all_pieces_in d flags stacks inside f (room - (box_of d b).bottom) kids
  pieces_in d flags stacks inside f room (row_piece r from y None cols) = cond (is_flagged flags r)
      (record { row = r; from = from; height = room - y } ∷ inside r from (least_height d r from (room - y)))
      (all_pieces_in d flags stacks inside f (room - y) cols)
  pieces_in d flags stacks inside f room (row_piece r from y (Some height) cols) =
      all_pieces_in d flags stacks inside f (made_height d r height) cols
  pieces_in d flags stacks inside f room (column_tree number from end extent kids) =
      all_pieces_in d flags stacks inside number room kids

  pub all_pieces_in : FlowsData → Flags → (stacks : ℕ → List CutPiece) → (inside : ℕ → Token → ℕ → List CutPiece)
      → (f room : ℕ) → PlainTrees → List CutPiece
  all_pieces_in d flags stacks inside f room no_trees = []
  all_pieces_in d flags stacks inside f room (more_trees tree trees) =
      pieces_in d flags stacks inside f room tree ++ all_pieces_in d flags stacks inside f room trees

-- those in the columns that row r makes of a height from a place on; at most n flagged rows stand one inside another
unfoldable pub pieces_at : FlowsData → Flags → (stacks : ℕ → List CutPiece) → (n : ℕ) → (r : ℕ) → (q : Token) → (h : ℕ)
    → List CutPiece
pieces_at d flags stacks zero r q h = []
pieces_at d flags stacks (suc n) r q h =
    all_pieces_in d flags stacks (pieces_at d flags stacks n) (row_of d r).flow h (columns_at d r q h)

-- those in stack s; at most n stacks stand one inside another
unfoldable pub pieces_in_stack : FlowsData → Flags → (n s : ℕ) → List CutPiece
pieces_in_stack d flags zero s = []
pieces_in_stack d flags (suc n) s =
    let stacks = pieces_in_stack d flags n in
    pieces_in d flags stacks (pieces_at d flags stacks (length d.rows)) (stack_of d s).flow (stack_height d s)
    (stack_fragment d s)

-- the flagged pieces of a layout, in the order of its tree
unfoldable pub lowered_pieces : FlowsData → Flags → List CutPiece
lowered_pieces d flags = pieces_in_stack d flags (length d.stacks) 0
