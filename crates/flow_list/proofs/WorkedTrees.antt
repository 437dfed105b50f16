-- Worked cases of the tree of a layout, with the place of each box and item.
use Rattle.std.proofs.Common.{◌≡◌, ℕ, true, false, List, [], ◌∷◌, ◌++◌, drop, take, refl}
use Rattle.std.specs.Prelude.{codes}
use Rattle.std.specs.Fmt.{digits}
use Rattle.mc_base.specs.declared.level.Level.TheVariants.{Forced, L0, L2}
use Rattle.flow_list.specs.Data.{FlowsData, Margin, Solid, Start, End, Row}
use Rattle.flow_list.specs.Column.{column, steps, endless_column}
use Rattle.flow_list.specs.Rows.{columns_by, fits, least, size_in, fill_in, rows_to, all_rows}
use Rattle.flow_list.specs.RowHeights.{size_of, height_fits, row_columns, row_height, columns_of_row}
use Rattle.flow_list.specs.Stacks.{stack_strip, stack_height}
use Rattle.flow_list.specs.Placing.{places_from}
use Rattle.flow_list.specs.Fragments.{laid_items, strip_after, trees_of, row_fragments, stack_laid, stack_fragment}
use Rattle.flow_list.specs.Tree.{TreeKind, stack, row as row_kind, col, box as box_kind, atom as atom_kind, TreeLine}
use Rattle.flow_list.specs.Tree.{lines_of_stack, tree_of, lines_of_tree, lines_of_trees, lines_of_columns, lines_of_column}
use Rattle.flow_list.specs.TreeText.{tree_line_text}
use Rattle.flow_list.proofs.WorkedParts.{atom, seam, bare, flow, row, box, flows, within, one_row}

unfoldable pub drawn : FlowsData → List TreeLine
unfolding column steps endless_column columns_by fits least size_in fill_in rows_to all_rows size_of height_fits row_columns
    row_height columns_of_row stack_strip stack_height places_from laid_items strip_after trees_of row_fragments stack_laid
    stack_fragment lines_of_stack tree_of lines_of_tree lines_of_trees lines_of_columns lines_of_column
drawn d = tree_of d

abbrev pub at : ℕ → TreeKind → ℕ → ℕ → ℕ → ℕ → TreeLine
at depth kind x y w h = record { depth = depth; kind = kind; x = x; y = y; w = w; h = h }

-- six items of 20 in three columns
six-tree : drawn (one_row 3 (atom 20 ∷ atom 20 ∷ atom 20 ∷ atom 20 ∷ atom 20 ∷ atom 20 ∷ [])
    (bare L0 ∷ bare L0 ∷ bare L0 ∷ bare L0 ∷ bare L0 ∷ bare L0 ∷ bare L0 ∷ []))
    ≡ at 0 (stack 0) 0 0 320 40 ∷ at 1 (row_kind 0 (0 ∷ [])) 0 0 320 40
    ∷ at 2 (col 0) 0 0 100 40 ∷ at 3 (atom_kind 0) 0 0 100 20 ∷ at 3 (atom_kind 1) 0 20 100 20
    ∷ at 2 (col 1) 110 0 100 40 ∷ at 3 (atom_kind 2) 110 0 100 20 ∷ at 3 (atom_kind 3) 110 20 100 20
    ∷ at 2 (col 2) 220 0 100 40 ∷ at 3 (atom_kind 4) 220 0 100 20 ∷ at 3 (atom_kind 5) 220 20 100 20 ∷ []
unfolding drawn
six-tree = refl

-- an empty row has no column
nothing-tree : drawn (one_row 2 [] (bare L0 ∷ [])) ≡ at 0 (stack 0) 0 0 320 0 ∷ at 1 (row_kind 0 (0 ∷ [])) 0 0 210 0 ∷ []
unfolding drawn
nothing-tree = refl

-- the padding goes with the last line, and both pieces of the box are as high as the columns
padded-tree :
    drop 2 (drawn (one_row 2 (atom 20 ∷ atom 20 ∷ [])
    (seam [] L0 (Start 0 ∷ []) ∷ bare L0 ∷ seam (Solid 10 ∷ End 0 ∷ []) L0 [] ∷ [])))
    ≡ at 2 (col 0) 0 0 100 30 ∷ at 3 (box_kind 0 true false) 0 0 100 30 ∷ at 4 (atom_kind 0) 0 0 100 20
    ∷ at 2 (col 1) 110 0 100 30 ∷ at 3 (box_kind 0 false true) 110 0 100 30 ∷ at 4 (atom_kind 1) 110 0 100 20 ∷ []
unfolding drawn
padded-tree = refl

-- margins are dropped at an unforced break, and kept at a forced one
margins-tree :
    drop 4 (drawn (one_row 2 (atom 20 ∷ atom 20 ∷ [])
    (seam [] L0 (Margin 16 ∷ []) ∷ seam (Margin 16 ∷ []) L0 (Margin 16 ∷ []) ∷ seam (Margin 16 ∷ []) L0 [] ∷ [])))
    ≡ at 2 (col 1) 110 0 100 36 ∷ at 3 (atom_kind 1) 110 0 100 20 ∷ []
unfolding drawn
margins-tree = refl

forced-tree :
    drop 4 (drawn (one_row 2 (atom 20 ∷ atom 20 ∷ [])
    (seam [] L0 (Margin 16 ∷ []) ∷ seam (Margin 16 ∷ []) Forced (Margin 16 ∷ []) ∷ seam (Margin 16 ∷ []) L0 [] ∷ [])))
    ≡ at 2 (col 1) 110 0 100 36 ∷ at 3 (atom_kind 1) 110 16 100 20 ∷ []
unfolding drawn
forced-tree = refl

-- rows in a row: the inner row is cut, and each of its pieces has what is left of its column
abbrev nested : FlowsData
nested = flows (flow (Row 1 ∷ []) (seam [] L0 (Start 0 ∷ Solid 20 ∷ []) ∷ seam (End 0 ∷ []) L0 [] ∷ [])
    ∷ flow (atom 10 ∷ atom 10 ∷ atom 10 ∷ atom 10 ∷ atom 10 ∷ [])
    (bare L0 ∷ bare L0 ∷ seam [] L0 (Start 1 ∷ []) ∷ bare L2 ∷ bare L2 ∷ seam (End 1 ∷ []) L0 [] ∷ []) ∷ [])
    (row 1 2 ∷ record { flow = 2; n = 2; w = 45; step = 55; x = 0; auto = false } ∷ [])
    (box false 0 0 ∷ record { x = 0; w = 45; avoid = true; top = 0; bottom = 0 } ∷ [])

nested-tree : drawn nested
    ≡ at 0 (stack 0) 0 0 320 30 ∷ at 1 (row_kind 0 (0 ∷ [])) 0 0 210 30
    ∷ at 2 (col 0) 0 0 100 30 ∷ at 3 (box_kind 0 true false) 0 0 100 30 ∷ at 4 (row_kind 1 (0 ∷ [])) 0 20 100 10
    ∷ at 5 (col 0) 0 20 45 10 ∷ at 6 (atom_kind 0) 0 20 45 10 ∷ at 5 (col 1) 55 20 45 10 ∷ at 6 (atom_kind 1) 55 20 45 10
    ∷ at 2 (col 1) 110 0 100 30 ∷ at 3 (box_kind 0 false true) 110 0 100 30 ∷ at 4 (row_kind 1 (2 ∷ [])) 110 0 100 30
    ∷ at 5 (col 0) 110 0 45 30 ∷ at 6 (box_kind 1 true true) 110 0 45 30 ∷ at 7 (atom_kind 2) 110 0 45 10 ∷ at 7 (atom_kind 3) 110
    10 45 10 ∷ at 7 (atom_kind 4) 110 20 45 10 ∷ []
unfolding drawn
nested-tree = refl

-- a box whose edges are cloned has them on both sides of the break
abbrev cloned : FlowsData
cloned =
    flows (flow (atom 20 ∷ atom 20 ∷ []) (seam [] L0 (Start 0 ∷ Solid 5 ∷ []) ∷ bare L0 ∷ seam (Solid 10 ∷ End 0 ∷ []) L0 [] ∷ [])
    ∷ []) (row 1 2 ∷ []) (box false 5 10 ∷ [])

cloned-tree : drop 5 (drawn cloned) ≡ at 2 (col 1) 110 0 100 35 ∷ at 3 (box_kind 0 false true) 110 0 100 35 ∷ at 4 (atom_kind 1)
    110 5 100 20 ∷ []
unfolding drawn
cloned-tree = refl

-- and so have two of them, one in the other: the inner one continues below the edge of the outer one
abbrev cloned_twice : FlowsData
cloned_twice = flows (flow (atom 20 ∷ atom 20 ∷ [])
    (seam [] L0 (Start 0 ∷ Solid 5 ∷ Start 1 ∷ Solid 2 ∷ []) ∷ bare L0 ∷ seam (Solid 3 ∷ End 1 ∷ Solid 10 ∷ End 0 ∷ []) L0 []
    ∷ []) ∷ [])
    (row 1 2 ∷ []) (box false 5 10 ∷ record { x = 2; w = 90; avoid = false; top = 2; bottom = 3 } ∷ [])

cloned_twice-tree : drop 2 (drawn cloned_twice)
    ≡ at 2 (col 0) 0 0 100 40 ∷ at 3 (box_kind 0 true false) 0 0 100 40 ∷ at 4 (box_kind 1 true false) 2 5 90 25 ∷ at 5
    (atom_kind 0) 0 7 100 20
    ∷ at 2 (col 1) 110 0 100 40 ∷ at 3 (box_kind 0 false true) 110 0 100 40 ∷ at 4 (box_kind 1 false true) 112 5 90 25 ∷ at 5
    (atom_kind 1) 110 7 100 20 ∷ []
unfolding drawn
cloned_twice-tree = refl

-- a row of size 0 in a gap stands after the margins before it, and an atom of 0 at the gap's start where the gap ends the column
abbrev zero_row : FlowsData
zero_row = flows (flow (atom 10 ∷ Row 1 ∷ []) (bare L0 ∷ seam [] L0 (Margin 7 ∷ []) ∷ seam (Margin 30 ∷ []) L0 [] ∷ []) ∷ flow
    (atom 0 ∷ []) (bare L0 ∷ bare L0 ∷ []) ∷ []) (row 1 1 ∷ row 2 1 ∷ []) []

zero_row-tree : take 1 (drop 4 (drawn zero_row)) ≡ at 3 (row_kind 1 (0 ∷ [])) 0 17 100 0 ∷ []
unfolding drawn
zero_row-tree = refl

zero_atom-tree :
    drop 4 (drawn (one_row 1 (atom 10 ∷ atom 0 ∷ []) (bare L0 ∷ seam [] L0 (Margin 7 ∷ []) ∷ seam (Margin 30 ∷ []) L0 [] ∷ [])))
    ≡ at 3 (atom_kind 1) 0 10 100 0 ∷ []
unfolding drawn
zero_atom-tree = refl

-- a line of the text
line-text : tree_line_text (at 4 (row_kind 1 (0 ∷ 2 ∷ [])) 110 0 100 30) ≡ codes "4 row 1 0.2 110 0 100 30" ++ 10 ∷ []
unfolding digits
line-text = refl

box-text : tree_line_text (at 3 (box_kind 0 false true) 110 0 100 35) ≡ codes "3 box 0 -e 110 0 100 35" ++ 10 ∷ []
unfolding digits
box-text = refl

-- a row in one column, with two rows in it and an item between them
abbrev stacked : FlowsData
stacked = flows (flow (Row 1 ∷ atom 30 ∷ Row 2 ∷ []) (bare L0 ∷ bare L0 ∷ bare L0 ∷ bare L0 ∷ [])
    ∷ flow (atom 20 ∷ atom 20 ∷ atom 20 ∷ atom 20 ∷ []) (bare L0 ∷ bare L0 ∷ bare L0 ∷ bare L0 ∷ bare L0 ∷ [])
    ∷ flow (atom 20 ∷ atom 20 ∷ []) (bare L0 ∷ bare L0 ∷ bare L0 ∷ []) ∷ [])
    (record { flow = 1; n = 1; w = 210; step = 210; x = 0; auto = false } ∷ row 2 2 ∷ row 3 2 ∷ []) []

stacked-tree : drop 1 (drawn stacked)
    ≡ at 1 (row_kind 0 (0 ∷ [])) 0 0 210 90 ∷ at 2 (col 0) 0 0 210 90
    ∷ at 3 (row_kind 1 (0 ∷ [])) 0 0 210 40 ∷ at 4 (col 0) 0 0 100 40 ∷ at 5 (atom_kind 0) 0 0 100 20 ∷ at 5 (atom_kind 1) 0 20
    100 20
    ∷ at 4 (col 1) 110 0 100 40 ∷ at 5 (atom_kind 2) 110 0 100 20 ∷ at 5 (atom_kind 3) 110 20 100 20
    ∷ at 3 (atom_kind 1) 0 40 210 30
    ∷ at 3 (row_kind 2 (0 ∷ [])) 0 70 210 20 ∷ at 4 (col 0) 0 70 100 20 ∷ at 5 (atom_kind 0) 0 70 100 20
    ∷ at 4 (col 1) 110 70 100 20 ∷ at 5 (atom_kind 1) 110 70 100 20 ∷ []
unfolding drawn
stacked-tree = refl

-- forced breaks make a third column, to the right of the two that the row has
parted-tree : drop 6 (drawn (one_row 2 (atom 10 ∷ atom 10 ∷ atom 10 ∷ []) (bare L0 ∷ bare Forced ∷ bare Forced ∷ bare L0 ∷ [])))
    ≡ at 2 (col 2) 220 0 100 10 ∷ at 3 (atom_kind 2) 220 0 100 10 ∷ []
unfolding drawn
parted-tree = refl

-- a row of size 0 in a gap between two items stands after the margins before it, the item after the gap at the gap's end
abbrev zero_between : FlowsData
zero_between =
    flows (flow (atom 10 ∷ Row 1 ∷ atom 5 ∷ [])
    (bare L0 ∷ seam [] L0 (Margin 7 ∷ []) ∷ seam (Margin 30 ∷ []) L0 [] ∷ bare L0 ∷ [])
    ∷ flow (atom 0 ∷ []) (bare L0 ∷ bare L0 ∷ []) ∷ []) (row 1 1 ∷ row 2 1 ∷ []) []

zero_between-tree : drop 1 (drawn zero_between)
    ≡ at 1 (row_kind 0 (0 ∷ [])) 0 0 100 45 ∷ at 2 (col 0) 0 0 100 45 ∷ at 3 (atom_kind 0) 0 0 100 10
    ∷ at 3 (row_kind 1 (0 ∷ [])) 0 17 100 0 ∷ at 4 (col 0) 0 17 100 0 ∷ at 5 (atom_kind 0) 0 17 100 0 ∷ at 3 (atom_kind 2) 0 40
    100 5 ∷ []
unfolding drawn
zero_between-tree = refl

-- a box that ends in a gap ends at its start; one that starts and ends there, and its item of height 0, stand at its end
empty_box-tree : drop 1 (drawn (flows (flow (atom 10 ∷ atom 0 ∷ atom 20 ∷ [])
    (seam [] L0 (Start 0 ∷ []) ∷ seam (Margin 7 ∷ End 0 ∷ []) L0 (Start 1 ∷ []) ∷ seam (End 1 ∷ Margin 12 ∷ []) L0 [] ∷ bare L0
    ∷ []) ∷ [])
    (row 1 1 ∷ []) (box false 0 0 ∷ box false 0 0 ∷ [])))
    ≡ at 1 (row_kind 0 (0 ∷ [])) 0 0 100 42 ∷ at 2 (col 0) 0 0 100 42 ∷ at 3 (box_kind 0 true true) 0 0 100 10 ∷ at 4
    (atom_kind 0) 0 0 100 10
    ∷ at 3 (box_kind 1 true true) 0 22 100 0 ∷ at 4 (atom_kind 1) 0 22 100 0 ∷ at 3 (atom_kind 2) 0 22 100 20 ∷ []
unfolding drawn
empty_box-tree = refl

-- a row with `column-fill: auto` is as high as its tallest column, and so is the piece of a box that continues
auto_box-tree :
    drop 1 (drawn
    (within 200
    (flows (flow (atom 40 ∷ atom 20 ∷ []) (seam [] L0 (Start 0 ∷ []) ∷ bare Forced ∷ seam (End 0 ∷ []) L0 [] ∷ []) ∷ [])
    (record { flow = 1; n = 2; w = 100; step = 110; x = 0; auto = true } ∷ []) (box false 0 0 ∷ []))))
    ≡ at 1 (row_kind 0 (0 ∷ [])) 0 0 210 40
    ∷ at 2 (col 0) 0 0 100 40 ∷ at 3 (box_kind 0 true false) 0 0 100 40 ∷ at 4 (atom_kind 0) 0 0 100 40
    ∷ at 2 (col 1) 110 0 100 40 ∷ at 3 (box_kind 0 false true) 110 0 100 20 ∷ at 4 (atom_kind 1) 110 0 100 20 ∷ []
unfolding drawn
auto_box-tree = refl

-- Where 10 are available, a row in a box with 5 above and 10 below at each break has no room: each of its pieces has height
-- 0, also in the column that begins inside it.
filled_low-tree :
    drop 1 (drawn
    (within 10 (flows (flow (Row 1 ∷ []) (seam [] L0 (Start 0 ∷ Solid 5 ∷ []) ∷ seam (Solid 10 ∷ End 0 ∷ []) L0 [] ∷ [])
    ∷ flow (atom 20 ∷ atom 20 ∷ []) (bare L0 ∷ bare L0 ∷ bare L0 ∷ []) ∷ []) (row 1 2 ∷ row 2 1 ∷ []) (box false 5 10 ∷ []))))
    ≡ at 1 (row_kind 0 (0 ∷ [])) 0 0 210 10
    ∷ at 2 (col 0) 0 0 100 10 ∷ at 3 (box_kind 0 true false) 0 0 100 15 ∷ at 4 (row_kind 1 (0 ∷ [])) 0 5 100 0 ∷ at 5 (col 0) 0 5
    100 0 ∷ at 6 (atom_kind 0) 0 5 100 20
    ∷ at 2 (col 1) 110 0 100 10 ∷ at 3 (box_kind 0 false true) 110 0 100 15 ∷ at 4 (row_kind 1 (1 ∷ [])) 110 5 100 0 ∷ at 5
    (col 0) 110 5 100 0 ∷ at 6 (atom_kind 1) 110 5 100 20 ∷ []
unfolding drawn
filled_low-tree = refl
