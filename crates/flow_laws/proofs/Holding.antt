-- What stands in the trees of columns, of all columns of a row, and of a row that stands whole.
use Rattle.std.proofs.Common.{◌≡◌, ℕ, suc, ◌-◌, ◌<◌, ◌≤◌, false, List, [], ◌∷◌, ◌++◌, length, take, Option, Some, None, refl, sym}
use Rattle.std.proofs.Common.{subst, ◌∙◌, ap, arith, inr, length-append}
use Rattle.std.specs.Prelude.{AllPairs, ◌≢◌, flat_map}
use Rattle.std.proofs.Math.Seq.{take-append_seam}
use Rattle.mc_base.specs.PlainTree.{plain_trees, PlainTree}
use Rattle.flow_list.specs.Data.{Flow, FlowsData, Item, Row}
use Rattle.flow_data.specs.Flows.{row_of, flow_in, item_of, flow_of, no_row}
use Rattle.flow_data.specs.Soundness.{IsSound}
use Rattle.flow_list.specs.Tokens.{Token, row_start, item_number, within, IsPlaceBefore}
use Rattle.flow_list.specs.Column.{Column, Inner}
use Rattle.flow_list.specs.Rows.{columns_by, end_of, left_in, rows_to, all_rows}
use Rattle.flow_list.specs.RowHeights.{column_within, row_columns}
use Rattle.flow_list.specs.Placing.{RowLaid}
use Rattle.flow_list.specs.Fragments.{column_made, fragment_of, column_fragment, fragments_from, row_fragments}
use Rattle.flow_laws.specs.Progress.{first_columns, AtomAt, Contents, atoms_in, contents_to, atoms_from, atoms_between}
use Rattle.flow_laws.specs.Holding.{atoms_in_tree, atoms_in_trees, Part, parts_in_tree, items_before, parts_between, row_of_part}
use Rattle.flow_laws.specs.Holding.{FragmentsHoldEachItem}
use Rattle.flow_laws.proofs.Places.{in-items, IsReached, start-reached}
use Rattle.flow_laws.proofs.HoldingEnds.{taken}
use Rattle.flow_laws.proofs.HoldingColumns.{RowHolds, ItemHolds, holds-at, place-at, column-holds}
use Rattle.flow_laws.proofs.HoldingRows.{flow-holds, columns-hold, all-hold}
use Rattle.flow_laws.proofs.HoldingOnce.{atoms-differ}
use Rattle.flow_laws.proofs.HoldingParts.{column-parts, rows-apart}

made-within : (d : FlowsData) (f : Flow) (h : Option ℕ) (t : Token) → column_made (all_rows d) d f h t ≡ column_within d f h t
made-within d f None t = refl
made-within d f (Some h) t = refl

-- ---- any flow

module _ (d : FlowsData) (sound : IsSound d) (f : ℕ) (lt : f < length d.flows) where
  abbrev pub here : Flow
  here = flow_of d f

  -- what the rows in it are, and hold
  abbrev pub rows : Inner
  rows = rows_to d (length d.rows)

  abbrev pub held : Contents
  held = contents_to d (length d.rows)

  abbrev pub trees : RowLaid → List PlainTree
  trees = row_fragments d (length d.rows)

  -- the tree of its column holds the atoms from the column's place to its end, told as those of row r
  pub flow-atoms : (r : ℕ) (t : Token) (h : Option ℕ) → IsPlaceBefore d here t →
      atoms_in_tree r (fragment_of trees rows d f here h t) ++ atoms_in held r here (column_within d here h t).end
      ≡ atoms_in held r here t
  unfolding all_rows
  flow-atoms r t h place =
      ap (λ (c : Column). atoms_in_tree r (fragment_of trees rows d f here h t) ++ atoms_in held r here c.end)
      (sym (made-within d here h t))
      ∙ column-holds d rows held trees r here (flow-holds d sound f lt) t place f h

  -- so do those of columns one after another
  pub flow-columns : (r n : ℕ) (t : Token) (h : Option ℕ) → IsReached d here t →
      atoms_in_trees r (plain_trees (fragments_from (fragment_of trees rows d f here h) t
      (columns_by (column_made rows d here h) here n t)))
      ++ atoms_in held r here (end_of t (columns_by (column_made rows d here h) here n t)) ≡ atoms_in held r here t
  flow-columns r n t h at = columns-hold d rows held trees r here (flow-holds d sound f lt) h f n t at

  -- and all columns hold all atoms
  pub flow-all : (r : ℕ) (t : Token) (h : Option ℕ) → IsReached d here t →
      atoms_in_trees r (plain_trees (fragments_from (fragment_of trees rows d f here h) t
      (columns_by (column_made rows d here h) here (left_in rows here t) t))) ≡ atoms_in held r here t
  flow-all r t h at = all-hold d rows held trees r here (flow-holds d sound f lt) h f t at

  -- a place that a row leaves in a column is one
  leaves : (t : Token) → IsPlaceBefore d here t → (s : ℕ) (q : Token) (a k : ℕ) → item_number t ≤ k → item_of here k ≡ Row s →
      q ≡ taken rows here t k → (rows.fill s q a).at_end ≡ false → (j : ℕ) × (rest : Token) × ((rows.fill s q a).end ≡ j ∷ rest)
  leaves t place s q a k le is from e =
      let at = place-at d rows held trees 0 here (flow-holds d sound f lt) t place k s is le in
      go (rows.fill s q a).end (holds.place q a (subst (IsReached d (flow_in d s)) (sym from) at) e)
    where
      holds : RowHolds d rows held trees s
      holds = let P : Item → Type 0 = λ item. ItemHolds d rows held trees item in
          subst P is (holds-at d rows held trees here.items k (flow-holds d sound f lt))

      go : (u : Token) → IsPlaceBefore d (flow_in d s) u → (j : ℕ) × (rest : Token) × (u ≡ j ∷ rest)
      go [] inner = absurd inner
      go (j ∷ rest) inner = (j, rest, refl)

  -- the items in the tree of its column are those from the column's place to its end
  pub flow-parts : (t : Token) (h : Option ℕ) → IsPlaceBefore d here t →
      parts_in_tree (fragment_of trees rows d f here h t) ≡ parts_between here t (column_within d here h t).end
  unfolding all_rows
  flow-parts t h place =
      column-parts d rows trees here t (in-items d here t place) (leaves t place) f h
      ∙ ap (λ (c : Column). parts_between here t c.end) (made-within d here h t)

  -- and no row is there twice
  pub flow-rows-once : (t : Token) (h : Option ℕ) → IsPlaceBefore d here t →
      AllPairs (λ a b. a ≢ b) (flat_map row_of_part (parts_in_tree (fragment_of trees rows d f here h t)))
  flow-rows-once t h place =
      let P : List Part → Type 0 = λ parts. AllPairs (λ a b. a ≢ b) (flat_map row_of_part parts) in
      subst P (sym (flow-parts t h place)) (rows-apart d sound f lt (item_number t) (item_number t)
      (items_before (column_within d here h t).end - item_number t) (within t))

-- ---- a row's flow

module _ (d : FlowsData) (sound : IsSound d) (r : ℕ) (lt : r < length d.rows) where
  known : (row_of d r).flow < length d.flows
  known = (sound.rows r no_row lt).flow

  column-atoms : (t : Token) (h : Option ℕ) → IsPlaceBefore d (flow_in d r) t
      → atoms_in_tree r (column_fragment d r h t) ++ atoms_from d r (column_within d (flow_in d r) h t).end ≡ atoms_from d r t
  unfolding column_fragment all_rows atoms_from contents_to
  column-atoms t h place = flow-atoms d sound (row_of d r).flow known r t h place

  atoms-to-end : (t : Token) (h : Option ℕ) → IsPlaceBefore d (flow_in d r) t
      → atoms_in_tree r (column_fragment d r h t) ≡ atoms_between d r t (column_within d (flow_in d r) h t).end
  atoms-to-end t h place = go (atoms_in_tree r (column_fragment d r h t)) (column_within d (flow_in d r) h t).end
      (column-atoms t h place)
    where
      go : (held : List AtomAt) (u : Token) → held ++ atoms_from d r u ≡ atoms_from d r t → held ≡ atoms_between d r t u
      go held u e =
          let n : length (atoms_from d r t) - length (atoms_from d r u) ≡ length held =
          omega (arith, ap length e, length-append held (atoms_from d r u)) in
          sym (ap (λ k. take k (atoms_from d r t)) n ∙ ap (take (length held)) (sym e) ∙ take-append_seam held (atoms_from d r u))

  columns-atoms : (n : ℕ) (t : Token) (h : Option ℕ) → IsPlaceBefore d (flow_in d r) t →
      atoms_in_trees r (plain_trees (fragments_from (column_fragment d r h) t (first_columns d r n t h)))
      ++ atoms_from d r (end_of t (first_columns d r n t h)) ≡ atoms_from d r t
  unfolding column_fragment all_rows atoms_from contents_to
  columns-atoms n t None place = flow-columns d sound (row_of d r).flow known r n t None (inr place)
  columns-atoms n t (Some h) place = flow-columns d sound (row_of d r).flow known r n t (Some h) (inr place)

  all-atoms : (h : Option ℕ) → atoms_in_trees r
      (plain_trees (fragments_from (column_fragment d r h) row_start (row_columns d r h))) ≡ atoms_from d r row_start
  unfolding column_fragment row_columns all_rows atoms_from contents_to
  all-atoms None = flow-all d sound (row_of d r).flow known r row_start None (start-reached d (flow_in d r))
  all-atoms (Some h) = flow-all d sound (row_of d r).flow known r row_start (Some h) (start-reached d (flow_in d r))

  row-atoms : (height : ℕ) (h : Option ℕ) →
      atoms_in_trees r (plain_trees
      (row_fragments d (suc (length d.rows))
      (record { row = r; from = row_start; height = height; made_at = h; filled = false })))
      ≡ atoms_from d r row_start
  unfolding row_fragments atoms_from contents_to
  row-atoms height h = flow-all d sound (row_of d r).flow known r row_start h (start-reached d (flow_in d r))

  parts-are : (t : Token) (h : Option ℕ) → IsPlaceBefore d (flow_in d r) t
      → parts_in_tree (column_fragment d r h t) ≡ parts_between (flow_in d r) t (column_within d (flow_in d r) h t).end
  unfolding column_fragment all_rows
  parts-are t h place = flow-parts d sound (row_of d r).flow known t h place

  rows-once : (t : Token) (h : Option ℕ) → IsPlaceBefore d (flow_in d r) t
      → AllPairs (λ a b. a ≢ b) (flat_map row_of_part (parts_in_tree (column_fragment d r h t)))
  unfolding column_fragment all_rows
  rows-once t h place = flow-rows-once d sound (row_of d r).flow known t h place

pub fragments-hold : (d : FlowsData) → IsSound d → (r : ℕ) → r < length d.rows → FragmentsHoldEachItem d r
fragments-hold d sound r lt = record {
  column_atoms = column-atoms d sound r lt;
  atoms_to_end = atoms-to-end d sound r lt;
  columns_atoms = columns-atoms d sound r lt;
  all_atoms = all-atoms d sound r lt;
  row_atoms = row-atoms d sound r lt;
  atoms_differ = atoms-differ d sound r lt;
  column_parts = parts-are d sound r lt;
  rows_once = rows-once d sound r lt;
}
