-- Breaks are constant over a range of heights, told by shortages: below the height that the shortage adds to, what is told of
-- columns stays (this project's own).
use Rattle.std.specs.Prelude.{◌≡◌, ℕ, ◌+◌, ◌<◌, ◌≤◌, false, Option, Some, None}
use Rattle.flow_data.specs.declared.data.Flow.{Flow}
use Rattle.flow_data.specs.declared.data.FlowsData.{FlowsData}
use Rattle.flow_list.specs.Tokens.{Token}
use Rattle.flow_list.specs.Column.{column}
use Rattle.flow_list.specs.Rows.{rows_to}
use Rattle.flow_list.specs.Folds.{Folded, Folding, shortage, folded_by, columns_made}
use Rattle.flow_laws.specs.Constant.{ColumnStays, FillStays}

-- a height from lo on, and where there is a shortage below what it adds to
abbrev pub IsShortOf : (lo : ℕ) → Option ℕ → (h : ℕ) → Type 0
IsShortOf lo None h = lo ≤ h
IsShortOf lo (Some short) h = (lo ≤ h) × (h < lo + short)

-- Of columns b the same is told as of columns a: their lines, whether one overflows and whether they fit; and where none
-- overflows also how many they are, where they end, whether that is the end, the greatest level, and whether one ends at a break
-- that wasn't forced.
pub record FoldStays (a b : Folded) : Type 0 where
  pub lines : b.lines ≡ a.lines
  pub overflow : b.overflow ≡ a.overflow
  pub fits : b.fits ≡ a.fits
  pub columns : a.overflow ≡ false → b.columns ≡ a.columns
  pub end : a.overflow ≡ false → b.end ≡ a.end
  pub at_end : a.overflow ≡ false → b.at_end ≡ a.at_end
  pub level : a.overflow ≡ false → b.level ≡ a.level
  pub unforced : a.overflow ≡ false → b.unforced ≡ a.unforced

-- The law, where any number of rows stand one inside another.
pub record ShortagesHold (d : FlowsData) (depth : ℕ) : Type 0 where
  -- of a column
  pub column_stays : (f : Flow) (t : Token) (lo h : ℕ) → IsShortOf lo (shortage lo (column (rows_to d depth) d f t lo).bounds) h →
      ColumnStays (column (rows_to d depth) d f t lo) (column (rows_to d depth) d f t h)
  -- of any number of columns one after another, and of those up to the first that breaks a rule
  pub fold_stays : (folding : Folding) (f : Flow) (n : ℕ) (q : Token) (lo h : ℕ) →
      IsShortOf lo (folded_by f q lo (columns_made folding (rows_to d depth) d f n q lo)).short h →
      FoldStays (folded_by f q lo (columns_made folding (rows_to d depth) d f n q lo))
      (folded_by f q h (columns_made folding (rows_to d depth) d f n q h))
  -- and so of what a row makes of a height
  pub fill_stays : (r : ℕ) (q : Token) (lo h : ℕ) → IsShortOf lo (shortage lo ((rows_to d depth).fill r q lo).bounds) h →
      FillStays ((rows_to d depth).fill r q lo) ((rows_to d depth).fill r q h)
