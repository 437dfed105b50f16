-- Columns of any flow of sound data advance, stay small, and hold each item once.
use Rattle.std.proofs.Common.{◌≡◌, ℕ, ◌+◌, ◌^◌, ◌<◌, ◌≤◌, true, [], ◌∷◌, ◌++◌, length, Option, Some, None, arith, inr}
use Rattle.std.proofs.lemmas.List.Elements.{All-from_recursion}
use Rattle.std.specs.Prelude.{AllPairs, ◌≢◌, flat_map}
use Rattle.mc_base.specs.PlainTree.{plain_trees}
use Rattle.flow_data.specs.declared.data.Flow.{Flow}
use Rattle.flow_data.specs.declared.data.FlowsData.{FlowsData}
use Rattle.flow_data.specs.Flows.{flow_of, no_flow}
use Rattle.flow_data.specs.Soundness.{IsSound}
use Rattle.flow_list.specs.Tokens.{Token, item_number, is_end, IsPlaceBefore}
use Rattle.flow_list.specs.Column.{Step, steps_from, tail_from, column}
use Rattle.flow_list.specs.Rows.{end_of, left_in, reach, rows_to, all_rows}
use Rattle.flow_list.specs.RowHeights.{column_within}
use Rattle.flow_list.specs.Fragments.{fragments_from}
use Rattle.flow_laws.specs.Progress.{contents_to}
use Rattle.flow_laws.specs.Holding.{atoms_in_tree, atoms_in_trees, parts_in_tree, parts_between, row_of_part}
use Rattle.flow_laws.proofs.Advance.{Later}
use Rattle.flow_laws.proofs.Holding.{flow-atoms, flow-columns, flow-all, flow-parts, flow-rows-once}
use Rattle.flow_laws.proofs.Needs.{column-steps}
use Rattle.flow_laws.proofs.Places.{in-items}
use Rattle.flow_laws.proofs.RowsAdvance.{columns-end, flow-advances}
use Rattle.flow_laws.proofs.Small.{within-reach, needs-small, cuts-small, needs-rise, loose-reach, extent-le}
use Rattle.column_laws.specs.AnyFlow.{atoms_of_flow, flow_fragment, flow_columns, IsLaterIn, FlowAdvances, FlowIsSmall}
use Rattle.column_laws.specs.AnyFlow.{FlowIsSound}
use Rattle.column_laws.proofs.Bounds.{reach-small, bounds-small}

-- where a row is cut at any height, and the tail after it
abbrev CutIsSmall : Step → Type 0
CutIsSmall s = (a : ℕ) → a ≤ s.height → (s.y + a + s.bottoms < 2 ^ 60) × (tail_from (s.y + a) s.tail + s.bottoms_after < 2 ^ 60)

module _ (d : FlowsData) (sound : IsSound d) (f : ℕ) (lt : f < length d.flows) where
  abbrev here : Flow
  here = flow_of d f

  later-is : (t u : Token) → ((r : ℕ) → Later d (rows_to d (length d.rows)) (contents_to d (length d.rows)) r here t u) →
      IsLaterIn d here t u
  unfolding all_rows
  later-is t u later = record { place = (later 0).place; fewer = (later 0).fewer; rest = λ r. (later r).rest }

  columns-reach : (n : ℕ) (t : Token) (h : Option ℕ) → IsPlaceBefore d here t → left_in (all_rows d) here t ≤ n →
      is_end here (end_of t (flow_columns d f n t h)) ≡ true
  unfolding all_rows
  columns-reach n t h place le = columns-end d (rows_to d (length d.rows)) (contents_to d (length d.rows)) 0 here
      (column_within d here h) (λ u at. flow-advances d sound f lt 0 h u at) n t place le

  advances : FlowAdvances d f
  advances = record {
    column_advances = λ t h place. later-is t (column_within d here h t).end (λ r. flow-advances d sound f lt r h t place);
    columns_end = columns-reach;
  }

  small : FlowIsSmall d f
  small = record {
    reach_is_small = reach-small d sound f lt;
    needs_never_fall = λ t place. needs-rise (all_rows d) d here (sound.flows f no_flow lt) (item_number t) 0 0
        (steps_from (all_rows d) d here t) (column-steps (all_rows d) d here (sound.flows f no_flow lt) t place);
    needs_are_small = λ t place. needs-small (all_rows d) d here (reach (all_rows d) d here t) (item_number t)
        (steps_from (all_rows d) d here t)
        (reach-small d sound f lt t)
        (within-reach (all_rows d) d here (reach (all_rows d) d here t) t (in-items d here t place) (omega arith));
    cuts_are_small = λ t place. All-from_recursion CutIsSmall (steps_from (all_rows d) d here t)
        (cuts-small (all_rows d) d here (reach (all_rows d) d here t) (item_number t)
        (steps_from (all_rows d) d here t)
        (reach-small d sound f lt t)
        (within-reach (all_rows d) d here (reach (all_rows d) d here t) t (in-items d here t place) (omega arith)));
    loose_needs_are_small = λ k known.
        let a = loose-reach (all_rows d) d here (reach (all_rows d) d here (k ∷ [])) k known (omega arith) in
        let b = reach-small d sound f lt (k ∷ []) in
        omega arith;
    extents_are_small = λ t h place.
        let a = extent-le d here (reach (all_rows d) d here t) h t (in-items d here t place) (omega arith) in
        let b = reach-small d sound f lt t in
        omega arith;
    bounds_are_small = λ t h. All-from_recursion (λ b. b < 2 ^ 60) (column (all_rows d) d here t h).bounds
        (bounds-small d sound f lt t h);
  }

  column-atoms : (r : ℕ) (t : Token) (h : Option ℕ) → IsPlaceBefore d here t →
      atoms_in_tree r (flow_fragment d f h t) ++ atoms_of_flow d r here (column_within d here h t).end ≡ atoms_of_flow d r here t
  unfolding all_rows
  column-atoms r t h place = flow-atoms d sound f lt r t h place

  columns-atoms : (r n : ℕ) (t : Token) (h : Option ℕ) → IsPlaceBefore d here t →
      atoms_in_trees r (plain_trees (fragments_from (flow_fragment d f h) t (flow_columns d f n t h)))
      ++ atoms_of_flow d r here (end_of t (flow_columns d f n t h)) ≡ atoms_of_flow d r here t
  unfolding all_rows
  columns-atoms r n t None place = flow-columns d sound f lt r n t None (inr place)
  columns-atoms r n t (Some h) place = flow-columns d sound f lt r n t (Some h) (inr place)

  all-atoms : (r : ℕ) (t : Token) (h : Option ℕ) → IsPlaceBefore d here t →
      atoms_in_trees r (plain_trees (fragments_from (flow_fragment d f h) t
      (flow_columns d f (left_in (all_rows d) here t) t h))) ≡ atoms_of_flow d r here t
  unfolding all_rows
  all-atoms r t None place = flow-all d sound f lt r t None (inr place)
  all-atoms r t (Some h) place = flow-all d sound f lt r t (Some h) (inr place)

  column-parts : (t : Token) (h : Option ℕ) → IsPlaceBefore d here t →
      parts_in_tree (flow_fragment d f h t) ≡ parts_between here t (column_within d here h t).end
  unfolding all_rows
  column-parts t h place = flow-parts d sound f lt t h place

  rows-once : (t : Token) (h : Option ℕ) → IsPlaceBefore d here t →
      AllPairs (λ a b. a ≢ b) (flat_map row_of_part (parts_in_tree (flow_fragment d f h t)))
  unfolding all_rows
  rows-once t h place = flow-rows-once d sound f lt t h place

pub flows-are-sound : (d : FlowsData) → IsSound d → (f : ℕ) → f < length d.flows → FlowIsSound d f
flows-are-sound d sound f lt = record {
  advances = advances d sound f lt;
  small = small d sound f lt;
  holds = record {
    column_atoms = column-atoms d sound f lt;
    columns_atoms = columns-atoms d sound f lt;
    all_atoms =
        all-atoms d sound f lt;
    column_parts = column-parts d sound f lt;
    rows_once = rows-once d sound f lt;
  };
}
