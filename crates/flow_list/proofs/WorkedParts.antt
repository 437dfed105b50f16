-- Short words for the flows of worked cases, and what is computed of them.
use Rattle.std.specs.Prelude.{ℕ, Bool, false, List, [], ◌∷◌, Option, Some, map}
use Rattle.mc_base.specs.declared.level.Level.{Level}
use Rattle.mc_base.specs.declared.level.Level.TheVariants.{L0}
use Rattle.flow_list.specs.Data.{BoxInfo, Edge, Flow, FlowsData, Item, RowInfo, Seam, Plain, Free, Each, Atom, Row}
use Rattle.flow_list.specs.Tokens.{Token}
use Rattle.flow_data.specs.Flows.{flow_in}
use Rattle.flow_list.specs.Column.{Column, column, steps, endless_column}
use Rattle.flow_list.specs.Rows.{columns_by, fits, least, size_in, fill_in, rows_to, all_rows}
use Rattle.flow_list.specs.RowHeights.{size_of, height_fits, row_columns, row_height, columns_of_row}

abbrev pub atom : ℕ → Item
atom h = Atom h Plain

abbrev pub seam : List Edge → Level → List Edge → Seam
seam tail level head = record { tail = tail; head = head; level = level }

abbrev pub bare : Level → Seam
bare level = seam [] level []

abbrev pub flow : List Item → List Seam → Flow
flow items seams = record { opened = []; items = items; seams = seams }

abbrev pub row : ℕ → ℕ → RowInfo
row f n = record { flow = f; n = n; w = 100; step = 110; x = 0; auto = false }

abbrev pub box : Bool → ℕ → ℕ → BoxInfo
box avoid top bottom = record { x = 0; w = 100; avoid = avoid; top = top; bottom = bottom }

abbrev pub flows : List Flow → List RowInfo → List BoxInfo → FlowsData
flows fs rows boxes = record {
  flows = flow (Row 0 ∷ []) (bare L0 ∷ bare L0 ∷ []) ∷ fs;
  rows = rows;
  boxes = boxes;
  stacks = record { flow = 0; w = 320; bound = Free } ∷ [];
}

-- the same where this much is available to each row in the stack
abbrev pub within : ℕ → FlowsData → FlowsData
within available d = record d { stacks = record { flow = 0; w = 320; bound = Each available } ∷ [] }

-- one row of n columns of a flow
abbrev pub one_row : ℕ → List Item → List Seam → FlowsData
one_row n items seams = flows (flow items seams ∷ []) (row 1 n ∷ []) (box false 0 0 ∷ [])

unfoldable pub size : FlowsData → ℕ → Token → ℕ
unfolding column steps endless_column columns_by fits least size_in fill_in rows_to all_rows size_of height_fits row_columns
    row_height columns_of_row
size d r q = size_of d r q

unfoldable pub ends_at : FlowsData → ℕ → ℕ → List Token
unfolding column steps endless_column columns_by fits least size_in fill_in rows_to all_rows size_of height_fits row_columns
    row_height columns_of_row
ends_at d r h = map (λ (c : Column). c.end) (row_columns d r (Some h))

unfoldable pub fit : FlowsData → List ℕ → List Bool
unfolding column steps endless_column columns_by fits least size_in fill_in rows_to all_rows size_of height_fits row_columns
    row_height columns_of_row
fit d heights = map (height_fits d 0) heights

unfoldable pub height : FlowsData → Option ℕ → ℕ
unfolding column steps endless_column columns_by fits least size_in fill_in rows_to all_rows size_of height_fits row_columns
    row_height columns_of_row
height d available = row_height d 0 available

unfoldable pub ends : FlowsData → Option ℕ → List Token
unfolding column steps endless_column columns_by fits least size_in fill_in rows_to all_rows size_of height_fits row_columns
    row_height columns_of_row
ends d available = map (λ (c : Column). c.end) (columns_of_row d 0 available)

unfoldable pub column_from : FlowsData → ℕ → Token → ℕ → Column
unfolding column steps endless_column columns_by fits least size_in fill_in rows_to all_rows size_of height_fits row_columns
    row_height columns_of_row
column_from d r t h = column (all_rows d) d (flow_in d r) t h
