-- Fragments that are made of others with their cut pieces lowered (this project's own).
use Rattle.std.specs.Prelude.{◌≡◌, ℕ, zero, suc, ◌-◌, cond, List, [], ◌∷◌, map, Option, Some, None}
use Rattle.mc_base.specs.PlainTree.{PlainTree, PlainTrees}
use Rattle.mc_base.specs.declared.fragment.FragId.{FragId}
use Rattle.mc_base.specs.declared.fragment.Node.{Node}
use Rattle.mc_base.specs.declared.fragment.Node.TheVariants.{Atom, Piece, RowPiece, Column}
use Rattle.flow_list.specs.Data.{AtomKind, FlowsData, Item, Plain, Line, Void, Image, Bounded, Atom as AtomItem, Row}
use Rattle.flow_data.specs.Flows.{box_of, flow_of, item_of, row_of}
use Rattle.flow_list.specs.Certificate.{StackRow, rows_in_stacks}
use Rattle.flow_list.specs.Tokens.{Token}
use Rattle.flow_list.specs.declared.laid.LaidRow.{LaidRow}
use Rattle.frag_pool.specs.Nodes.{Nodes}
use Rattle.frag_pool.specs.Standing.{StandsFor}
use Rattle.piece_data.specs.Lowering.{CutPiece, Flags, all_lowered_in, all_pieces_in, columns_lowered, is_flagged, lowered_in}
use Rattle.piece_data.specs.Lowering.{made_height, pieces_at, pieces_in}
use Rattle.tree_lowering.specs.declared.cut.Cut.{Cut}
use Rattle.tree_lowering.specs.declared.cut.Within.{Within}

-- ---- trees

-- a tree that stands here, with its cut pieces lowered; and trees
abbrev pub lower : FlowsData → Flags → Within → PlainTree → PlainTree
lower d flags at tree = lowered_in d flags (columns_lowered d flags at.nested) at.room tree

abbrev pub all_lower : FlowsData → Flags → Within → PlainTrees → PlainTrees
all_lower d flags at trees = all_lowered_in d flags (columns_lowered d flags at.nested) at.room trees

-- the pieces in a tree that stands here, in order; and in trees
abbrev pub pieces : FlowsData → Flags → Within → (stacks : ℕ → List CutPiece) → PlainTree → List CutPiece
pieces d flags at stacks tree = pieces_in d flags stacks (pieces_at d flags stacks at.nested) at.flow at.room tree

abbrev pub all_pieces : FlowsData → Flags → Within → (stacks : ℕ → List CutPiece) → PlainTrees → List CutPiece
all_pieces d flags at stacks trees = all_pieces_in d flags stacks (pieces_at d flags stacks at.nested) at.flow at.room trees

-- ---- the columns of a piece of row r that was lowered to a height; where no more pieces may stand in it, they stay

abbrev pub within_row : FlowsData → (r height n depth : ℕ) → Within
within_row d r height n depth = record { flow = (row_of d r).flow; room = height; nested = n; depth = depth }

abbrev pub lower_inside : FlowsData → Flags → (n r height : ℕ) → PlainTree → PlainTree
lower_inside d flags zero r height tree = tree
lower_inside d flags (suc n) r height tree = lower d flags (within_row d r height n 0) tree

abbrev pub pieces_inside : FlowsData → Flags → (n r height : ℕ) → (stacks : ℕ → List CutPiece) → PlainTrees → List CutPiece
pieces_inside d flags zero r height stacks trees = []
pieces_inside d flags (suc n) r height stacks trees = all_pieces d flags (within_row d r height n 0) stacks trees

-- ---- fragments

-- made stands for what low makes of the tree that id stood for
abbrev pub IsMadeOf : (old new : Nodes) → (low : PlainTree → PlainTree) → FragId → FragId → Type 0
IsMadeOf old new low id made = (tree : PlainTree) → StandsFor old id tree → StandsFor new made (low tree)

abbrev pub AreMadeOf : (old new : Nodes) → (low : PlainTree → PlainTree) → List FragId → List FragId → Type 0
AreMadeOf old new low [] [] = Unit {0}
AreMadeOf old new low [] (made ∷ more) = ⊥
AreMadeOf old new low (id ∷ ids) [] = ⊥
AreMadeOf old new low (id ∷ ids) (made ∷ more) = IsMadeOf old new low id made × AreMadeOf old new low ids more

-- ---- nodes

-- the flagged piece that a node is, if it is cut
abbrev pub cut_at : Flags → (r : ℕ) → Token → (y : ℕ) → Option ℕ → Option Cut
cut_at flags r from y None = cond (is_flagged flags r) (Some (record { row = r; from = from; y = y })) None
cut_at flags r from y (Some height) = None

abbrev pub cut_of : Flags → Node → Option Cut
cut_of flags (Atom item y) = None
cut_of flags (Piece owner starts y bottom kids) = None
cut_of flags (RowPiece r from y height columns) = cut_at flags r from y height
cut_of flags (Column flow from end extent kids) = None

-- the stack of a container with a height
abbrev pub stack_of_kind : AtomKind → Option ℕ
stack_of_kind Plain = None
stack_of_kind (Line owner index x w) = None
stack_of_kind (Void owner x w) = None
stack_of_kind (Image owner x w) = None
stack_of_kind (Bounded owner number x) = Some number

abbrev pub stack_of_item : Item → Option ℕ
stack_of_item (AtomItem height kind) = stack_of_kind kind
stack_of_item (Row r) = None

-- the stack that a node of a flow is
abbrev pub stack_in : FlowsData → (flow : ℕ) → Node → Option ℕ
stack_in d flow (Atom item y) = stack_of_item (item_of (flow_of d flow) item)
stack_in d flow (Piece owner starts y bottom kids) = None
stack_in d flow (RowPiece r from y height columns) = None
stack_in d flow (Column number from end extent kids) = None

-- the room in a piece of a row that stands where there is this room
abbrev pub row_room : FlowsData → (room r y : ℕ) → Option ℕ → ℕ
row_room d room r y None = room - y
row_room d room r y (Some height) = made_height d r height

-- where that stands which is in a node
abbrev pub inside : FlowsData → Within → Node → Within
inside d at (Atom item y) = at
inside d at (Piece owner starts y bottom kids) = record at { room = at.room - (box_of d owner).bottom }
inside d at (RowPiece r from y height columns) = record at { room = row_room d at.room r y height }
inside d at (Column flow from end extent kids) = record at { flow = flow }

-- these are the rows directly in stacks, as they were laid out
abbrev pub laid_row : LaidRow → StackRow
laid_row r = record { row = r.row; available = r.available }

abbrev pub AreRowsInStacks : FlowsData → List LaidRow → Type 0
AreRowsInStacks d rows = map laid_row rows ≡ rows_in_stacks d
