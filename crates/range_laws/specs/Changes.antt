-- At the least of the heights at which columns may change, their lines do change (this project's own).
use Rattle.std.specs.Prelude.{◌≢◌, ℕ, ◌≤◌, List, All, Contains}
use Rattle.flow_list.specs.Data.{Flow, FlowsData}
use Rattle.flow_list.specs.Tokens.{Token}
use Rattle.flow_list.specs.Column.{column}
use Rattle.flow_list.specs.Rows.{rows_to}
use Rattle.flow_list.specs.Ranges.{judged, bounds_of, lines_of}

-- h is one of these heights, and none of them is less
pub record IsLeastOf (bs : List ℕ) (h : ℕ) : Type 0 where
  pub among : Contains bs h
  pub none_below : All (λ b. h ≤ b) bs

-- The law, for rows of which any number stand one inside another.
pub record LinesChange (d : FlowsData) (depth : ℕ) : Type 0 where
  -- the lines of a column are others at its least bound
  pub column_changes : (f : Flow) (t : Token) (lo h : ℕ) → IsLeastOf (column (rows_to d depth) d f t lo).bounds h →
      (column (rows_to d depth) d f t lo).lines ≢ (column (rows_to d depth) d f t h).lines
  -- so are those of what a row makes of a height
  pub fill_changes : (r : ℕ) (q : Token) (lo h : ℕ) → IsLeastOf ((rows_to d depth).fill r q lo).bounds h →
      ((rows_to d depth).fill r q lo).lines ≢ ((rows_to d depth).fill r q h).lines
  -- and those of the columns that are judged
  pub judged_change : (r : ℕ) (q : Token) (lo h : ℕ) → IsLeastOf (bounds_of (judged (rows_to d depth) d r q lo)) h →
      lines_of (judged (rows_to d depth) d r q lo) ≢ lines_of (judged (rows_to d depth) d r q h)
