-- What a row directly in a stack uses are sizes of the data's rows.
use Rattle.std.proofs.Common.{ℕ, ◌+◌, ◌<◌, length, Option, Some, None}
use Rattle.std.specs.List.{flat_map}
use Rattle.flow_list.specs.Data.{Flow, FlowsData}
use Rattle.flow_data.specs.Flows.{flow_in}
use Rattle.flow_list.specs.Certificate.{uses_of, range_uses, row_ranges, row_uses}
use Rattle.flow_list.specs.Column.{Inner, endless_column}
use Rattle.flow_list.specs.RowHeights.{column_within, row_columns, columns_of_row}
use Rattle.flow_list.specs.Rows.{left_in, rows_to, all_rows}
use Rattle.flow_list.specs.Tokens.{Token, row_start}
use Rattle.column_laws.proofs.Uses.{columns-use}
use Rattle.range_laws.proofs.Above.{Above, above-append, Later}
use Rattle.range_laws.proofs.LaterRows.{HoldsAbove, steps-above, column-above, fills-above, ranges-use}

endless-above : (inner : Inner) (d : FlowsData) (f : Flow) (b n : ℕ) → HoldsAbove b n f → (t : Token) →
    Above b n (endless_column inner d f t).uses
unfolding endless_column
endless-above inner d f b n each t = steps-above inner d f b n each t

module _ (d : FlowsData) (n : ℕ) (later : (r : ℕ) → r < n → HoldsAbove (r + 1) n (flow_in d r)) where
  within-above : (r : ℕ) → r < n → (h : Option ℕ) (t : Token) → Above (r + 1) n (column_within d (flow_in d r) h t).uses
  unfolding all_rows
  within-above r lt None t = endless-above (all_rows d) d (flow_in d r) (r + 1) n (later r lt) t
  within-above r lt (Some h) t = column-above (rows_to d (length d.rows)) n (fills-above d n later (length d.rows)) d
      (flow_in d r) (r + 1) (later r lt) t h

  row-columns-above : (r : ℕ) → r < n → (h : Option ℕ) → Above (r + 1) n (uses_of (row_columns d r h))
  unfolding row_columns
  row-columns-above r lt h = columns-use (Later (r + 1) n) (column_within d (flow_in d r) h) (flow_in d r) (within-above r lt h)
      (left_in (all_rows d) (flow_in d r) row_start) row_start

  pub row-above : (r : ℕ) → r < n → (available : Option ℕ) → Above (r + 1) n (row_uses d r available)
  unfolding row_uses columns_of_row
  row-above r lt available =
      above-append (r + 1) n (flat_map (range_uses d r row_start) (row_ranges d r available)) _
      (ranges-use d n later r lt row_start (row_ranges d r available)) (row-columns-above r lt _)
