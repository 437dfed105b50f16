-- What stands in the tree of a column: the content from the place where the column begins to the one where it ends, each item
-- once and in order (CSS Fragmentation 3, section 2: the fragments of a box hold its content, and content doesn't stand in two of
-- them).
use Rattle.std.specs.Prelude.{◌≡◌, ℕ, suc, ◌+◌, ◌-◌, Option, false, List, [], ◌∷◌, ◌++◌, length, take, drop, flat_map, AllPairs}
use Rattle.std.specs.Prelude.{◌≢◌}
use Rattle.mc_base.specs.PlainTree.{PlainTree, PlainTrees, no_trees, more_trees, plain_trees, atom, piece, row_piece, column}
use Rattle.flow_list.specs.Data.{Flow, FlowsData, Item, Atom, Row}
use Rattle.flow_data.specs.Flows.{flow_of, flow_in, stack_of}
use Rattle.flow_list.specs.Tokens.{Token, row_start, item_number, within, IsPlaceBefore}
use Rattle.flow_list.specs.Rows.{end_of}
use Rattle.flow_list.specs.RowHeights.{column_within, row_columns}
use Rattle.flow_list.specs.Fragments.{column_fragment, fragments_from, row_fragments, stack_fragment}
use Rattle.flow_laws.specs.Progress.{AtomAt, atoms_from, atoms_between, first_columns}

-- ---- atoms, with those in rows within rows

unfoldable mutual
  -- the atoms in a tree that stands in a column of row r, in order
  pub atoms_in_tree : ℕ → PlainTree → List AtomAt
  atoms_in_tree r (atom k y) = record { row = r; item = k } ∷ []
  atoms_in_tree r (piece b starts y bottom kids) = atoms_in_trees r kids
  atoms_in_tree r (row_piece s from y height columns) = atoms_in_trees s columns
  atoms_in_tree r (column number from end extent kids) = atoms_in_trees r kids

  pub atoms_in_trees : ℕ → PlainTrees → List AtomAt
  atoms_in_trees r no_trees = []
  atoms_in_trees r (more_trees tree trees) = atoms_in_tree r tree ++ atoms_in_trees r trees

-- ---- items, with rows unopened

-- an item as it stands in a column: an atom, or a row from a place in it on
pub data Part : Type 0 where
  atom_part : (item : ℕ) → Part
  row_part : (row : ℕ) (from : Token) → Part

unfoldable mutual
  -- the items in a tree, in order, through boxes and not into rows
  pub parts_in_tree : PlainTree → List Part
  parts_in_tree (atom k y) = atom_part k ∷ []
  parts_in_tree (piece b starts y bottom kids) = parts_in_trees kids
  parts_in_tree (row_piece s from y height columns) = row_part s from ∷ []
  parts_in_tree (column number from end extent kids) = parts_in_trees kids

  pub parts_in_trees : PlainTrees → List Part
  parts_in_trees no_trees = []
  parts_in_trees (more_trees tree trees) = parts_in_tree tree ++ parts_in_trees trees

-- item k, taken from a place in it
abbrev pub part_of : ℕ → Item → Token → Part
part_of k (Atom height kind) q = atom_part k
part_of k (Row r) q = row_part r q

-- these items, of which the first is item k and is taken from a place
abbrev pub parts_of : ℕ → Token → List Item → List Part
parts_of k q [] = []
parts_of k q (item ∷ items) = part_of k item q ∷ parts_of (suc k) row_start items

-- how many items of a flow begin before a place
abbrev pub items_before : Token → ℕ
items_before [] = 0
items_before (e ∷ []) = e
items_before (e ∷ (j ∷ rest)) = e + 1

-- the items of a flow from place t on that begin before place u
abbrev pub parts_between : Flow → Token → Token → List Part
parts_between f t u = parts_of (item_number t) (within t) (take (items_before u - item_number t) (drop (item_number t) f.items))

-- the rows among these
abbrev pub row_of_part : Part → List ℕ
row_of_part (atom_part k) = []
row_of_part (row_part r from) = r ∷ []

-- The law, of row r of sound flows.
pub record FragmentsHoldEachItem (d : FlowsData) (r : ℕ) : Type 0 where
  -- the atoms in a column's tree, and those from its end on, are those from its place on, in order: those in rows that are cut
  -- too
  pub column_atoms : (t : Token) (h : Option ℕ) → IsPlaceBefore d (flow_in d r) t →
      atoms_in_tree r (column_fragment d r h t) ++ atoms_from d r (column_within d (flow_in d r) h t).end ≡ atoms_from d r t
  -- so they are those between the two places
  pub atoms_to_end : (t : Token) (h : Option ℕ) → IsPlaceBefore d (flow_in d r) t →
      atoms_in_tree r (column_fragment d r h t) ≡ atoms_between d r t (column_within d (flow_in d r) h t).end
  -- so do the trees of any number of columns, each of which begins where the one before it ends
  pub columns_atoms : (n : ℕ) (t : Token) (h : Option ℕ) → IsPlaceBefore d (flow_in d r) t →
      atoms_in_trees r (plain_trees (fragments_from (column_fragment d r h) t (first_columns d r n t h))) ++ atoms_from d r
      (end_of t (first_columns d r n t h)) ≡ atoms_from d r t
  -- the trees of all columns from the flow's start hold each of its atoms once, in order
  pub all_atoms : (h : Option ℕ)
      → atoms_in_trees r (plain_trees (fragments_from (column_fragment d r h) row_start (row_columns d r h)))
      ≡ atoms_from d r row_start
  -- so do the columns of a row that stands whole, at any height
  pub row_atoms : (height : ℕ) (h : Option ℕ) →
      atoms_in_trees r (plain_trees
      (row_fragments d (suc (length d.rows))
      (record { row = r; from = row_start; height = height; made_at = h; filled = false })))
      ≡ atoms_from d r row_start
  -- no two atoms of a row, from a place on, are one
  pub atoms_differ : (t : Token) → AllPairs (λ a b. a ≢ b) (atoms_from d r t)
  -- the items in a column's tree are those from its place to its end, each once and in order, a row that is cut with them
  pub column_parts : (t : Token) (h : Option ℕ) → IsPlaceBefore d (flow_in d r) t →
      parts_in_tree (column_fragment d r h t) ≡ parts_between (flow_in d r) t (column_within d (flow_in d r) h t).end
  -- no row is there twice
  pub rows_once : (t : Token) (h : Option ℕ) → IsPlaceBefore d (flow_in d r) t
      → AllPairs (λ a b. a ≢ b) (flat_map row_of_part (parts_in_tree (column_fragment d r h t)))

-- The tree of a stack holds each item of its flow once, in order, and each row from its start.
abbrev pub StackHoldsEachItem : FlowsData → ℕ → Type 0
StackHoldsEachItem d s = parts_in_tree (stack_fragment d s) ≡ parts_of 0 row_start (flow_of d (stack_of d s).flow).items
