-- Worked cases of looks, and of fragments of columns.
use Rattle.std.proofs.Common.{◌≡◌, ℕ, true, false, List, [], ◌∷◌, refl, Option, Some, None}
use Rattle.mc_base.specs.declared.level.Level.TheVariants.{L0}
use Rattle.mc_base.specs.PlainTree.{PlainTree, plain_trees, atom as atom_tree, piece, column as column_tree}
use Rattle.flow_list.specs.Data.{FlowsData, Solid, Start, End}
use Rattle.flow_data.specs.Flows.{flow_in}
use Rattle.flow_list.specs.Tokens.{Token}
use Rattle.flow_list.specs.Column.{column, steps, endless_column}
use Rattle.flow_list.specs.Fragments.{laid_items, strip_after, trees_of, row_fragments, column_fragment}
use Rattle.flow_list.specs.Looks.{looks, look_cost}
use Rattle.flow_list.specs.Placing.{places_from}
use Rattle.flow_list.specs.Rows.{columns_by, fits, least, size_in, fill_in, rows_to, all_rows}
use Rattle.flow_list.proofs.WorkedParts.{atom, seam, bare, one_row}

-- six items of 20: from the third on a column of 40 holds two, and its stop is looked at too
abbrev six : FlowsData
six = one_row 3 (atom 20 ∷ atom 20 ∷ atom 20 ∷ atom 20 ∷ atom 20 ∷ atom 20 ∷ [])
    (bare L0 ∷ bare L0 ∷ bare L0 ∷ bare L0 ∷ bare L0 ∷ bare L0 ∷ bare L0 ∷ [])

unfoldable looked : FlowsData → Token → ℕ → List ℕ
unfolding looks column steps columns_by fits least size_in fill_in rows_to all_rows
looked d t h = looks (all_rows d) d (flow_in d 0) t h ∷ look_cost (all_rows d) d (flow_in d 0) t h ∷ []

six-looks : looked six (2 ∷ []) 40 ≡ 3 ∷ 8 ∷ []
unfolding looked
six-looks = refl

-- two lines of 20 in a box with bottom padding 10: the first column has the first line, and the box goes on
unfoldable fragment_at : FlowsData → Option ℕ → Token → PlainTree
unfolding column steps endless_column columns_by fits least size_in fill_in rows_to all_rows places_from laid_items strip_after
    trees_of row_fragments column_fragment
fragment_at d h t = column_fragment d 0 h t

abbrev padded : FlowsData
padded = one_row 2 (atom 20 ∷ atom 20 ∷ []) (seam [] L0 (Start 0 ∷ []) ∷ bare L0 ∷ seam (Solid 10 ∷ End 0 ∷ []) L0 [] ∷ [])

padded-fragment : fragment_at padded (Some 30) (0 ∷ [])
    ≡ column_tree 1 (0 ∷ []) (1 ∷ []) 20 (plain_trees (piece 0 true 0 None (plain_trees (atom_tree 0 0 ∷ [])) ∷ []))
unfolding fragment_at
padded-fragment = refl

padded-fragment-2 : fragment_at padded (Some 30) (1 ∷ [])
    ≡ column_tree 1 (1 ∷ []) (2 ∷ []) 30 (plain_trees (piece 0 false 0 (Some 30) (plain_trees (atom_tree 1 0 ∷ [])) ∷ []))
unfolding fragment_at
padded-fragment-2 = refl
