-- The heights and the columns of the rows that stand outside any columns (CSS Multi-column 1, sections 7 and 8.2).
use Rattle.std.specs.Prelude.{◌≡◌, ℕ, ◌-◌, ◌^◌, ◌<◌, ◌==◌, max, min, Bool, true, false, cond, not, ◌||◌, List, [], ◌∷◌, length}
use Rattle.std.specs.Prelude.{map, nat_lt, nat_le, fold, Option, Some, None}
use Rattle.std.specs.List.{list_any}
use Rattle.flow_list.specs.Data.{Flow, FlowsData}
use Rattle.flow_data.specs.Flows.{row_of, flow_in, seam_of}
use Rattle.flow_list.specs.Tokens.{Token, row_start, item_number}
use Rattle.flow_list.specs.Column.{is_forced, Column, column, endless_column}
use Rattle.flow_list.specs.Rows.{size_in, columns_by, fits, left_in, all_rows}

-- the size of a row from a place on: the least height that fits
unfoldable pub size_of : FlowsData → ℕ → Token → ℕ
size_of d r q = size_in (all_rows d) d r q

-- whether a height fits a row from its start on
unfoldable pub height_fits : FlowsData → ℕ → ℕ → Bool
height_fits d r h = fits (all_rows d) d r row_start h

-- no height below this one fits a row
abbrev pub NoneFitsBelow : FlowsData → ℕ → ℕ → Type 0
NoneFitsBelow d r h = (k : ℕ) → k < h → height_fits d r k ≡ false

-- the column of a flow from a place on, at a height or without end
abbrev pub column_within : FlowsData → Flow → Option ℕ → Token → Column
column_within d f None q = endless_column (all_rows d) d f q
column_within d f (Some h) q = column (all_rows d) d f q h

-- all columns of a row, at a height or without end
unfoldable pub row_columns : FlowsData → ℕ → Option ℕ → List Column
row_columns d r height = columns_by (column_within d (flow_in d r) height) (flow_in d r)
    (left_in (all_rows d) (flow_in d r) row_start) row_start

-- the places where these columns end, and the places before these items
abbrev pub ends_of : List Column → List Token
ends_of cs = map (λ (c : Column). c.end) cs

abbrev pub before_items : List ℕ → List Token
before_items items = map (λ i. i ∷ []) items

-- the items of the places where these columns end
abbrev pub items_of : List Column → List ℕ
items_of cs = map (λ (c : Column). item_number c.end) cs

-- The height of a balanced row where this much is available: the least that fits, or what is available where that is less.
-- It fits in the first case.
abbrev pub balanced_height : Option ℕ → ℕ → ℕ
balanced_height None size = size
balanced_height (Some available) size = min size available

abbrev pub balanced_fits : Option ℕ → ℕ → Bool
balanced_fits None size = true
balanced_fits (Some available) size = nat_le size available

-- whether this height is all that is available
abbrev pub is_all_of : Option ℕ → ℕ → Bool
is_all_of None height = false
is_all_of (Some available) height = height == available

-- whether a place is a break that wasn't forced
abbrev pub is_unforced : Flow → Token → Bool
is_unforced f [] = false
is_unforced f (i ∷ []) = not (nat_le (length f.items) i || is_forced (seam_of f i).level)
is_unforced f (i ∷ (j ∷ rest)) = true

-- whether one of these columns ends at such a break
abbrev pub any_unforced : Flow → List Column → Bool
any_unforced f cs = list_any (λ (c : Column). is_unforced f c.end) cs

abbrev pub greatest_extent : List Column → ℕ
greatest_extent cs = fold (λ most (c : Column). max most c.extent) 0 cs

-- The height of a row with `column-fill: auto`: what is available where a column was broken or goes beyond that, else as far
-- as the longest column reaches.
abbrev pub filled_height : Flow → Option ℕ → List Column → ℕ
filled_height f None cs = greatest_extent cs
filled_height f (Some available) cs = cond (list_any (λ (c : Column). is_unforced f c.end || nat_lt available c.extent) cs)
    available (greatest_extent cs)

-- the same, told by how far the longest column reaches and whether a column was broken
abbrev pub filled_to : Option ℕ → ℕ → Bool → ℕ
filled_to None extent unforced = extent
filled_to (Some available) extent unforced = cond (unforced || nat_lt available extent) available extent

-- the height that its columns are made at: what is available, or the greatest height of 64 bits where that is no limit
abbrev pub fill_limit : Option ℕ → ℕ
fill_limit None = 2 ^ 64 - 1
fill_limit (Some available) = available

-- the height of a row that stands outside any columns, where this much is available
unfoldable pub row_height : FlowsData → ℕ → Option ℕ → ℕ
row_height d r available = cond (row_of d r).auto (filled_height (flow_in d r) available (row_columns d r available))
    (balanced_height available (size_of d r row_start))

-- the columns of that row: with `column-fill: auto` as high as is available, else as high as the row
unfoldable pub columns_of_row : FlowsData → ℕ → Option ℕ → List Column
columns_of_row d r available =
    row_columns d r (cond (row_of d r).auto available (Some (balanced_height available (size_of d r row_start))))
