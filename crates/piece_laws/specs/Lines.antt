-- Each line of a printed tree comes from a fragment: the lines are the nodes of the fragments, one line each and in order (CSS
-- Fragmentation 3, section 2; the printed form is this project's own).
use Rattle.std.specs.Prelude.{◌≡◌, ℕ, ◌+◌, ◌<◌, List, [], ◌∷◌, ◌++◌, drop, length, map, is_some}
use Rattle.mc_base.specs.PlainTree.{PlainTree, PlainTrees, atom as atom_tree, piece, row_piece, column as column_tree, no_trees}
use Rattle.mc_base.specs.PlainTree.{more_trees}
use Rattle.flow_list.specs.Data.{AtomKind, Flow, FlowsData, Item, Plain, Line, Void, Image, Bounded, Atom, Row}
use Rattle.flow_data.specs.Flows.{flow_in, flow_of, item_of, stack_of}
use Rattle.flow_list.specs.Fragments.{stack_fragment}
use Rattle.flow_list.specs.Tree.{TreeKind, stack, row, col, box, line, void, image, atom, TreeLine, lines_of_stack, tree_of}

-- what these lines are of
abbrev pub kinds_of : List TreeLine → List TreeKind
kinds_of lines = map (λ (l : TreeLine). l.kind) lines

-- what the node of an atom is; for a container with a height, the lines of its stack
abbrev pub atom_nodes : (ℕ → List TreeKind) → (k : ℕ) → AtomKind → List TreeKind
atom_nodes stacks k Plain = atom k ∷ []
atom_nodes stacks k (Line owner index x w) = line owner index ∷ []
atom_nodes stacks k (Void owner x w) = void owner ∷ []
atom_nodes stacks k (Image owner x w) = image owner ∷ []
atom_nodes stacks k (Bounded owner number x) = stacks number

abbrev pub item_nodes : (ℕ → List TreeKind) → (k : ℕ) → Item → List TreeKind
item_nodes stacks k (Atom height kind) = atom_nodes stacks k kind
item_nodes stacks k (Row r) = atom k ∷ []

unfoldable mutual
  -- the nodes of a tree in flow f, each before those within it, and none left out; i counts the trees before it that stand beside
  -- it
  pub nodes_of_tree : FlowsData → (ℕ → List TreeKind) → Flow → (i : ℕ) → PlainTree → List TreeKind
  nodes_of_tree d stacks f i (atom_tree k y) = item_nodes stacks k (item_of f k)
  nodes_of_tree d stacks f i (piece b starts y bottom kids) = box b starts (is_some bottom) ∷ nodes_of_trees d stacks f 0 kids
  nodes_of_tree d stacks f i (row_piece r from y height columns) = row r from ∷ nodes_of_trees d stacks (flow_in d r) 0 columns
  nodes_of_tree d stacks f i (column_tree number from end extent kids) = col i ∷ nodes_of_trees d stacks (flow_of d number) 0 kids

  pub nodes_of_trees : FlowsData → (ℕ → List TreeKind) → Flow → (i : ℕ) → PlainTrees → List TreeKind
  nodes_of_trees d stacks f i no_trees = []
  nodes_of_trees d stacks f i (more_trees tree trees) = nodes_of_tree d stacks f i tree ++ nodes_of_trees d stacks f (i + 1) trees

-- what the lines of stack s are of
abbrev pub stack_kinds : FlowsData → ℕ → List TreeKind
stack_kinds d s = kinds_of (lines_of_stack d (length d.stacks) s 0 0 0)

-- The law, of sound flows.
pub record LinesAreNodes (d : FlowsData) : Type 0 where
  -- The lines of a stack are one for itself, where its fragment has a column, and then one for each node in that, in order: each
  -- column, each piece of a box or of a row, and each atom, also in rows within rows. A container with a height gives the lines
  -- of its own stack, as whole as these.
  pub stack_lines : (s : ℕ) → s < length d.stacks →
      stack_kinds d s ≡ stack s ∷ drop 1 (nodes_of_tree d (stack_kinds d) (flow_of d (stack_of d s).flow) 0 (stack_fragment d s))
  -- the printed tree is that of stack 0
  pub tree_lines : kinds_of (tree_of d) ≡ stack_kinds d 0
