-- The tree of a stack names only parts that there are: by how it is made, from the stack inwards.
use Rattle.std.proofs.Common.{◌≡◌, ℕ, zero, suc, ◌<◌, Bool, true, false, cond, List, [], ◌∷◌, ◌++◌, length, refl, arith}
use Rattle.std.specs.List.{AllByRecursion as Each}
use Rattle.std.proofs.lemmas.Bool.Decides.{nat_tests}
use Rattle.mc_base.specs.PlainTree.{PlainTree, plain_trees}
use Rattle.flow_list.specs.Data.{FlowsData, Item, Plain, Line, Void, Image, Bounded, Atom, Row}
use Rattle.flow_data.specs.Flows.{row_of, stack_of, flow_of, flow_in, item_of, no_flow, no_item, no_row}
use Rattle.flow_data.specs.Soundness.{IsSound, IsSoundItem}
use Rattle.flow_list.specs.Tokens.{Token, item_number, is_end}
use Rattle.flow_list.specs.Column.{Column}
use Rattle.flow_list.specs.Rows.{columns_by, rows_to}
use Rattle.flow_list.specs.Placing.{RowLaid, Placed, opens_at, closes_at, atom_at, row_at}
use Rattle.flow_list.specs.Fragments.{closes_here, inside_box, behind_box, trees_of, column_made, fragment_of}
use Rattle.flow_list.specs.Fragments.{fragments_from, columns_wanted, row_fragments, stack_fragment}
use Rattle.flow_list.specs.Fragments.{places_in, laid_start, laid_to}
use Rattle.flow_list.specs.Fragments.{stop_of}
use Rattle.flow_laws.proofs.Descent.{row-known}
use Rattle.flow_laws.proofs.LaidSums.{IsRowOf}
use Rattle.tree_lines.specs.Shown.{ItemIsInside, IsInside, AreInside}
use Rattle.tree_laws.proofs.Named.{IsNamedAt, column-named, stack-named}

module _ (d : FlowsData) (sound : IsSound d) where
  -- ---- what stands before the end of a box, and after it

  inside-named : (f b : ℕ) (ps : List Placed) → Each (IsNamedAt d (flow_of d f)) ps
      → Each (IsNamedAt d (flow_of d f)) (inside_box b ps)
  inside-named f b [] all = tt
  inside-named f b (p ∷ ps) all = go (closes_here b p) (inside-named f b ps all.1)
    where
      go : (c : Bool) → Each (IsNamedAt d (flow_of d f)) (inside_box b ps)
          → Each (IsNamedAt d (flow_of d f)) (cond c [] (p ∷ inside_box b ps))
      go true rest = tt
      go false rest = (all.0, rest)

  behind-named : (f b : ℕ) (ps : List Placed) → Each (IsNamedAt d (flow_of d f)) ps
      → Each (IsNamedAt d (flow_of d f)) (behind_box b ps)
  behind-named f b [] all = tt
  behind-named f b (p ∷ ps) all = go (closes_here b p) (behind-named f b ps all.1)
    where
      go : (c : Bool) → Each (IsNamedAt d (flow_of d f)) (behind_box b ps)
          → Each (IsNamedAt d (flow_of d f)) (cond c ps (behind_box b ps))
      go true rest = all.1
      go false rest = rest

  -- ---- trees

  item-inside : (item : Item) → IsSoundItem d item → ItemIsInside d item
  item-inside (Atom height Plain) s = tt
  item-inside (Atom height (Line owner index x w)) s = tt
  item-inside (Atom height (Void owner x w)) s = tt
  item-inside (Atom height (Image owner x w)) s = tt
  item-inside (Atom height (Bounded owner number x)) s = s.stack.0
  item-inside (Row r) s = tt

  row-index : (f : ℕ) → f < length d.flows → (r : RowLaid) → IsRowOf (flow_of d f) r → r.row < length d.rows
  row-index f known r of = row-known d sound f of.item r.row known of.lt of.is

  -- what is promised of the columns of rows
  RowsInside : (RowLaid → List PlainTree) → Type 0
  RowsInside columns = (f : ℕ) (r : RowLaid) → r.row < length d.rows → AreInside d f (plain_trees (columns r))

  trees-inside : (columns : RowLaid → List PlainTree) → RowsInside columns → (n f : ℕ) (ps : List Placed) → f < length d.flows
      → Each (IsNamedAt d (flow_of d f)) ps → AreInside d f (plain_trees (trees_of columns n ps))
  unfolding IsInside trees_of RowsInside
  trees-inside columns rows zero f ps known all = tt
  trees-inside columns rows (suc n) f [] known all = tt
  trees-inside columns rows (suc n) f (opens_at b y starts ∷ ps) known all = (
    (all.0, trees-inside columns rows n f (inside_box b ps) known (inside-named f b ps all.1)),
    trees-inside columns rows n f (behind_box b ps) known (behind-named f b ps all.1),
  )
  trees-inside columns rows (suc n) f (closes_at b y ∷ ps) known all = trees-inside columns rows n f ps known all.1
  trees-inside columns rows (suc n) f (atom_at k y ∷ ps) known all = (
    (known, all.0, item-inside (item_of (flow_of d f) k) ((sound.flows f no_flow known).items k no_item all.0)),
    trees-inside columns rows n f ps known all.1,
  )
  trees-inside columns rows (suc n) f (row_at r y ∷ ps) known all =
      let index = row-index f known r all.0 in
      ((index, rows f r index), trees-inside columns rows n f ps known all.1)

  -- ---- columns of rows, and of rows within rows

  columns-inside : (depth : ℕ) → RowsInside (row_fragments d depth) → (n f : ℕ) (t : Token) (r : RowLaid)
      → r.row < length d.rows →
      AreInside d f (plain_trees
      (fragments_from (fragment_of (row_fragments d depth) (rows_to d depth) d (row_of d r.row).flow
      (flow_in d r.row) r.made_at) t
      (columns_by (column_made (rows_to d depth) d (flow_in d r.row) r.made_at) (flow_in d r.row) n t)))
  unfolding columns_by IsInside
  columns-inside depth rows zero f t r known = tt
  columns-inside depth rows (suc n) f t r known =
      go (is_end (flow_in d r.row) t) refl (λ q. columns-inside depth rows n f q r known)
    where
      made : Column
      made = column_made (rows_to d depth) d (flow_in d r.row) r.made_at t

      placed : List Placed
      placed = places_in d (flow_in d r.row) t
          (laid_start d (flow_in d r.row) t ++ laid_to (rows_to d depth) d (flow_in d r.row) t r.made_at
          (stop_of (rows_to d depth) d (flow_in d r.row) t r.made_at) made.end)

      in_flow : (row_of d r.row).flow < length d.flows
      in_flow = (sound.rows r.row no_row known).flow

      go : (b : Bool) → is_end (flow_in d r.row) t ≡ b →
          ((q : Token) → AreInside d f (plain_trees
          (fragments_from (fragment_of (row_fragments d depth) (rows_to d depth) d (row_of d r.row).flow (flow_in d r.row)
          r.made_at) q (columns_by (column_made (rows_to d depth) d (flow_in d r.row) r.made_at) (flow_in d r.row) n q)))) →
          AreInside d f (plain_trees
          (fragments_from (fragment_of (row_fragments d depth) (rows_to d depth) d (row_of d r.row).flow (flow_in d r.row)
          r.made_at) t
          (elim b [
            | true ↦ []
            | false ↦ made ∷ columns_by (column_made (rows_to d depth) d (flow_in d r.row) r.made_at) (flow_in d r.row) n made.end
          ])))
      go true e more = tt
      go false e more =
          let before : item_number t < length (flow_in d r.row).items = grind (arith, nat_tests) in (
            trees-inside (row_fragments d depth) rows (length placed) (row_of d r.row).flow placed in_flow
                (column-named d (flow_in d r.row) (sound.flows (row_of d r.row).flow no_flow in_flow)
                (rows_to d depth) t r.made_at
                before),
            more made.end,
          )

  rows-inside : (depth : ℕ) → RowsInside (row_fragments d depth)
  unfolding row_fragments IsInside RowsInside
  rows-inside zero f r known = tt
  rows-inside (suc depth) f r known =
      columns-inside depth (rows-inside depth) (columns_wanted (rows_to d depth) d r) f r.from r known

  -- ---- stacks

  pub stack-inside : (s : ℕ) → s < length d.stacks → IsInside d (stack_of d s).flow (stack_fragment d s)
  unfolding stack_fragment IsInside
  stack-inside s known =
      let g = (stack_of d s).flow in
      let in_flow = (sound.stacks s known).flow in
      trees-inside (row_fragments d (suc (length d.rows))) (rows-inside (suc (length d.rows))) _ g _ in_flow
      (stack-named d (flow_of d g) (sound.flows g no_flow in_flow) (stack_of d s).bound)
