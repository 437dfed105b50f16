-- The lines of a tree that is whole are its nodes.
use Rattle.std.proofs.Common.{◌≡◌, ℕ, ◌+◌, List, [], ◌∷◌, ◌++◌, drop, refl, ◌∙◌, ap}
use Rattle.std.specs.Prelude.{is_some}
use Rattle.mc_base.specs.PlainTree.{PlainTree, PlainTrees, atom as atom_tree, piece, row_piece, column as column_tree, no_trees}
use Rattle.mc_base.specs.PlainTree.{more_trees}
use Rattle.flow_list.specs.Data.{AtomKind, Flow, FlowsData, Item, RowInfo, Plain, Line, Void, Image, Bounded, Atom, Row}
use Rattle.flow_data.specs.Flows.{box_of, flow_in, flow_of, item_of, row_of}
use Rattle.flow_list.specs.Tree.{atom_lines, column_frame, Frame, in_box, item_lines, lines_of_column, lines_of_columns}
use Rattle.flow_list.specs.Tree.{lines_of_tree, lines_of_trees, piece_height, TreeKind, TreeLine, box, col, row}
use Rattle.piece_laws.specs.Lines.{atom_nodes, item_nodes, kinds_of, nodes_of_tree, nodes_of_trees}
use Rattle.piece_laws.proofs.Shapes.{AllColumns, AllIn, AtomOk, In, IsColumn, NamesOk}

kinds-append : (xs ys : List TreeLine) → kinds_of (xs ++ ys) ≡ kinds_of xs ++ kinds_of ys
kinds-append [] ys = refl
kinds-append (x ∷ xs) ys = ap (λ ks. x.kind ∷ ks) (kinds-append xs ys)

module _ (P : ℕ → Type 0) (d : FlowsData) (stacks : ℕ → ℕ → ℕ → ℕ → List TreeLine) (named : ℕ → List TreeKind)
    (same : (s depth x y : ℕ) → P s → kinds_of (stacks s depth x y) ≡ named s) where
  kind-lines : (k : ℕ) (kind : AtomKind) → NamesOk P kind → (depth y height : ℕ) (frame : Frame) →
      kinds_of (atom_lines stacks depth frame k y height kind) ≡ atom_nodes named k kind
  kind-lines k Plain ok depth y height frame = refl
  kind-lines k (Line owner index x w) ok depth y height frame = refl
  kind-lines k (Void owner x w) ok depth y height frame = refl
  kind-lines k (Image owner x w) ok depth y height frame = refl
  kind-lines k (Bounded owner number x) ok depth y height frame = same number depth (frame.x + x) (frame.y + y) ok

  item-kinds : (k : ℕ) (item : Item) → AtomOk P item → (depth y : ℕ) (frame : Frame) →
      kinds_of (item_lines stacks depth frame k y item) ≡ item_nodes named k item
  item-kinds k (Atom height kind) ok depth y frame = kind-lines k kind ok depth y height frame
  item-kinds k (Row r) ok depth y frame = absurd ok

  mutual
    unfolding lines_of_tree lines_of_trees lines_of_columns lines_of_column nodes_of_tree nodes_of_trees

    tree-kinds : (tree : PlainTree) (f : Flow) → In P d f tree → (depth i : ℕ) (frame : Frame) →
        kinds_of (lines_of_tree d stacks f depth frame tree) ≡ nodes_of_tree d named f i tree
    tree-kinds (atom_tree k y) f ok depth i frame = item-kinds k (item_of f k) ok depth y frame
    tree-kinds (piece b starts y bottom kids) f ok depth i frame =
        ap (λ ks. box b starts (is_some bottom) ∷ ks) (trees-kinds kids f ok (depth + 1) 0 (in_box frame (box_of d b).bottom))
    tree-kinds (row_piece r from y height columns) f ok depth i frame =
        ap (λ ks. row r from ∷ ks) (columns-kinds columns ok (row_of d r) (flow_in d r) depth frame y
        (piece_height frame y height) 0)
    tree-kinds (column_tree number from end extent kids) f ok depth i frame = absurd ok

    trees-kinds : (trees : PlainTrees) (f : Flow) → AllIn P d f trees → (depth i : ℕ) (frame : Frame) →
        kinds_of (lines_of_trees d stacks f depth frame trees) ≡ nodes_of_trees d named f i trees
    trees-kinds no_trees f ok depth i frame = refl
    trees-kinds (more_trees tree trees) f ok depth i frame =
        kinds-append (lines_of_tree d stacks f depth frame tree) (lines_of_trees d stacks f depth frame trees)
        ∙ ap (λ ks. ks ++ kinds_of (lines_of_trees d stacks f depth frame trees)) (tree-kinds tree f ok.0 depth i frame)
        ∙ ap (λ ks. nodes_of_tree d named f i tree ++ ks) (trees-kinds trees f ok.1 depth (i + 1) frame)

    column-kinds : (tree : PlainTree) → IsColumn P d tree →
        (r : RowInfo) (f : Flow) (depth : ℕ) (frame : Frame) (y height i : ℕ) →
        kinds_of (lines_of_column d stacks r depth frame y height i tree) ≡ nodes_of_tree d named f i tree
    column-kinds (atom_tree k z) ok r f depth frame y height i = absurd ok
    column-kinds (piece b starts z bottom kids) ok r f depth frame y height i = absurd ok
    column-kinds (row_piece s from z own columns) ok r f depth frame y height i = absurd ok
    column-kinds (column_tree number from end extent kids) ok r f depth frame y height i =
        ap (λ ks. col i ∷ ks) (trees-kinds kids (flow_of d number) ok (depth + 2) 0 (column_frame frame r y height i extent))

    columns-kinds : (trees : PlainTrees) → AllColumns P d trees →
        (r : RowInfo) (f : Flow) (depth : ℕ) (frame : Frame) (y height i : ℕ) →
        kinds_of (lines_of_columns d stacks r depth frame y height i trees) ≡ nodes_of_trees d named f i trees
    columns-kinds no_trees ok r f depth frame y height i = refl
    columns-kinds (more_trees tree trees) ok r f depth frame y height i =
        kinds-append (lines_of_column d stacks r depth frame y height i tree)
        (lines_of_columns d stacks r depth frame y height (i + 1) trees)
        ∙ ap (λ ks. ks ++ kinds_of (lines_of_columns d stacks r depth frame y height (i + 1) trees))
        (column-kinds tree ok.0 r f depth frame y height i)
        ∙ ap (λ ks. nodes_of_tree d named f i tree ++ ks) (columns-kinds trees ok.1 r f depth frame y height (i + 1))

  -- the lines of a column's tree, without one for the column itself
  pub whole-kinds : (tree : PlainTree) (f : Flow) → IsColumn P d tree → (depth i : ℕ) (frame : Frame) →
      kinds_of (lines_of_tree d stacks f depth frame tree) ≡ drop 1 (nodes_of_tree d named f i tree)
  unfolding lines_of_tree nodes_of_tree
  whole-kinds (atom_tree k z) f ok depth i frame = absurd ok
  whole-kinds (piece b starts z bottom kids) f ok depth i frame = absurd ok
  whole-kinds (row_piece s from z own columns) f ok depth i frame = absurd ok
  whole-kinds (column_tree number from end extent kids) f ok depth i frame = trees-kinds kids (flow_of d number) ok depth 0 frame
