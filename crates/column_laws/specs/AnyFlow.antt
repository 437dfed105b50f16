-- What is true of the flow of each row is true of any flow of the data, also of those of stacks: columns advance, all that is
-- computed stays small, and fragments hold each item once (CSS Fragmentation 3, sections 2 and 4.5; the bounds are this
-- project's own).
use Rattle.std.specs.Prelude.{◌≡◌, ℕ, ◌+◌, ◌<◌, ◌≤◌, ◌^◌, true, List, ◌++◌, length, flat_map, Option, All, AllPairs, ◌≢◌}
use Rattle.mc_base.specs.PlainTree.{PlainTree, plain_trees}
use Rattle.flow_data.specs.declared.data.Flow.{Flow}
use Rattle.flow_data.specs.declared.data.FlowsData.{FlowsData}
use Rattle.flow_data.specs.Flows.{flow_of}
use Rattle.flow_list.specs.Tokens.{Token, is_end, IsPlaceBefore, IsPlace}
use Rattle.flow_list.specs.Column.{Column, Step, column, steps_from, tail_from, loose_need}
use Rattle.flow_list.specs.Rows.{columns_by, end_of, left_in, reach, all_rows}
use Rattle.flow_list.specs.RowHeights.{column_within}
use Rattle.flow_list.specs.Fragments.{fragment_of, fragments_from, row_fragments}
use Rattle.flow_laws.specs.Bounds.{NeedsRise, NeedsAreSmall}
use Rattle.flow_laws.specs.Progress.{AtomAt, EndsWith, atoms_in, contents_to}
use Rattle.flow_laws.specs.Holding.{atoms_in_tree, atoms_in_trees, parts_in_tree, parts_between, row_of_part}

-- the atoms in a flow from a place on, in order, with those in the rows within it; the flow's own are told as those of row r
abbrev pub atoms_of_flow : FlowsData → (r : ℕ) → Flow → Token → List AtomAt
atoms_of_flow d r f t = atoms_in (contents_to d (length d.rows)) r f t

-- the fragment of the column of flow number f that begins at t, at a height or without end
abbrev pub flow_fragment : FlowsData → (f : ℕ) → Option ℕ → Token → PlainTree
flow_fragment d f h t = fragment_of (row_fragments d (length d.rows)) (all_rows d) d f (flow_of d f) h t

-- the first n columns of flow number f from a place on, or all of them, at a height or without end
abbrev pub flow_columns : FlowsData → (f n : ℕ) → Token → Option ℕ → List Column
flow_columns d f n t h = columns_by (column_within d (flow_of d f) h) (flow_of d f) n t

-- place u of a flow comes after place t: it is the end or a place before it, fewer items are left there, and the atoms from it
-- on are the last ones of those from t on
pub record IsLaterIn (d : FlowsData) (f : Flow) (t u : Token) : Type 0 where
  pub place : IsPlace d f u
  pub fewer : left_in (all_rows d) f u < left_in (all_rows d) f t
  pub rest : (r : ℕ) → EndsWith (atoms_of_flow d r f u) (atoms_of_flow d r f t)

-- The law of progress, of flow f of sound data.
pub record FlowAdvances (d : FlowsData) (f : ℕ) : Type 0 where
  -- a column ends later than it begins
  pub column_advances : (t : Token) (h : Option ℕ) → IsPlaceBefore d (flow_of d f) t →
      IsLaterIn d (flow_of d f) t (column_within d (flow_of d f) h t).end
  -- as many columns as there are items left, or more, reach the end
  pub columns_end : (n : ℕ) (t : Token) (h : Option ℕ) → IsPlaceBefore d (flow_of d f) t →
      left_in (all_rows d) (flow_of d f) t ≤ n → is_end (flow_of d f) (end_of t (flow_columns d f n t h)) ≡ true

-- The law of bounds, of flow f of sound data.
pub record FlowIsSmall (d : FlowsData) (f : ℕ) : Type 0 where
  -- all heights, margins, solid amounts and cloned edges from a place on are below 2^60 together
  pub reach_is_small : (t : Token) → reach (all_rows d) d (flow_of d f) t < 2 ^ 60
  -- what the items of a column need never falls, and is below 2^60, as is what an item needs after an unforced break
  pub needs_never_fall : (t : Token) → IsPlaceBefore d (flow_of d f) t → NeedsRise 0 (steps_from (all_rows d) d (flow_of d f) t)
  pub needs_are_small : (t : Token) → IsPlaceBefore d (flow_of d f) t → NeedsAreSmall (steps_from (all_rows d) d (flow_of d f) t)
  pub loose_needs_are_small : (k : ℕ) → k < length (flow_of d f).items → loose_need (all_rows d) d (flow_of d f) k < 2 ^ 60
  -- so is how far a column reaches
  pub extents_are_small : (t : Token) (h : Option ℕ) → IsPlaceBefore d (flow_of d f) t →
      (column_within d (flow_of d f) h t).extent < 2 ^ 60
  -- and where a row of it ends that is cut, with the tail of the seam after it
  pub cuts_are_small : (t : Token) → IsPlaceBefore d (flow_of d f) t →
      All (λ (s : Step). (a : ℕ) → a ≤ s.height → (s.y + a + s.bottoms < 2 ^ 60)
      × (tail_from (s.y + a) s.tail + s.bottoms_after < 2 ^ 60)) (steps_from (all_rows d) d (flow_of d f) t)
  -- and each bound of a column, also those of the fills in it
  pub bounds_are_small : (t : Token) (h : ℕ) → All (λ b. b < 2 ^ 60) (column (all_rows d) d (flow_of d f) t h).bounds

-- The law of holding, of flow f of sound data.
pub record FlowHolds (d : FlowsData) (f : ℕ) : Type 0 where
  -- the atoms in a column's tree, and those from its end on, are those from its place on, in order: those in rows that are cut
  -- too
  pub column_atoms : (r : ℕ) (t : Token) (h : Option ℕ) → IsPlaceBefore d (flow_of d f) t →
      atoms_in_tree r (flow_fragment d f h t) ++ atoms_of_flow d r (flow_of d f) (column_within d (flow_of d f) h t).end
      ≡ atoms_of_flow d r (flow_of d f) t
  -- so do the trees of any number of columns, each of which begins where the one before it ends
  pub columns_atoms : (r n : ℕ) (t : Token) (h : Option ℕ) → IsPlaceBefore d (flow_of d f) t →
      atoms_in_trees r (plain_trees (fragments_from (flow_fragment d f h) t (flow_columns d f n t h)))
      ++ atoms_of_flow d r (flow_of d f) (end_of t (flow_columns d f n t h))
      ≡ atoms_of_flow d r (flow_of d f) t
  -- and all columns from a place on hold all its atoms
  pub all_atoms : (r : ℕ) (t : Token) (h : Option ℕ) → IsPlaceBefore d (flow_of d f) t →
      atoms_in_trees r (plain_trees (fragments_from (flow_fragment d f h) t
      (flow_columns d f (left_in (all_rows d) (flow_of d f) t) t h))) ≡ atoms_of_flow d r (flow_of d f) t
  -- the items in a column's tree are those from its place to its end, each once and in order, a row that is cut with them
  pub column_parts : (t : Token) (h : Option ℕ) → IsPlaceBefore d (flow_of d f) t →
      parts_in_tree (flow_fragment d f h t) ≡ parts_between (flow_of d f) t (column_within d (flow_of d f) h t).end
  -- no row is there twice
  pub rows_once : (t : Token) (h : Option ℕ) → IsPlaceBefore d (flow_of d f) t →
      AllPairs (λ a b. a ≢ b) (flat_map row_of_part (parts_in_tree (flow_fragment d f h t)))

-- The law of any flow.
pub record FlowIsSound (d : FlowsData) (f : ℕ) : Type 0 where
  pub advances : FlowAdvances d f
  pub small : FlowIsSmall d f
  pub holds : FlowHolds d f
