-- Breaks are constant over a range of heights (this project's own): up to the least height at which something may change,
-- columns end where they end at the lower height, and that range is never empty.
use Rattle.std.specs.Prelude.{◌≡◌, ℕ, ◌<◌, ◌≤◌, false, List, [], ◌∷◌}
use Rattle.flow_list.specs.Data.{Flow, FlowsData}
use Rattle.flow_list.specs.Tokens.{Token}
use Rattle.flow_list.specs.Column.{Column, Filled, Inner, column}
use Rattle.flow_list.specs.Rows.{columns, fits, filled_by, rows_to}
use Rattle.flow_list.specs.Ranges.{judged, bounds_of}

-- h is below each of these
abbrev pub IsBelowEach : ℕ → List ℕ → Type 0
IsBelowEach h [] = Unit {0}
IsBelowEach h (b ∷ bs) = (h < b) × IsBelowEach h bs

-- Column b is what column a is: its lines and whether it overflows, and where it doesn't also its end and its level.
pub record ColumnStays (a b : Column) : Type 0 where
  pub lines : b.lines ≡ a.lines
  pub overflow : b.overflow ≡ a.overflow
  pub end : a.overflow ≡ false → b.end ≡ a.end
  pub level : a.overflow ≡ false → b.level ≡ a.level

-- the same of what a row makes of a height
pub record FillStays (a b : Filled) : Type 0 where
  pub lines : b.lines ≡ a.lines
  pub overflow : b.overflow ≡ a.overflow
  pub end : a.overflow ≡ false → b.end ≡ a.end
  pub at_end : a.overflow ≡ false → b.at_end ≡ a.at_end
  pub level : a.overflow ≡ false → b.level ≡ a.level

-- the same of columns one by one
abbrev pub ColumnsStay : List Column → List Column → Type 0
ColumnsStay [] [] = Unit {0}
ColumnsStay [] (b ∷ bs) = ⊥
ColumnsStay (a ∷ as_) [] = ⊥
ColumnsStay (a ∷ as_) (b ∷ bs) = ColumnStays a b × ColumnsStay as_ bs

-- what the rows that stand in a flow make of a height stays up to the least bound
abbrev pub FillsStay : Inner → Type 0
FillsStay inner = (r : ℕ) (q : Token) (lo h : ℕ) → lo ≤ h → IsBelowEach h (inner.fill r q lo).bounds
    → FillStays (inner.fill r q lo) (inner.fill r q h)

-- The law, for rows of which any number stand one inside another.
pub record BreaksAreConstant (d : FlowsData) (depth : ℕ) : Type 0 where
  -- of a column
  pub column_stays : (f : Flow) (t : Token) (lo h : ℕ) → lo ≤ h → IsBelowEach h (column (rows_to d depth) d f t lo).bounds →
      ColumnStays (column (rows_to d depth) d f t lo) (column (rows_to d depth) d f t h)
  -- whose bounds are all above its height
  pub bounds_are_above : (f : Flow) (t : Token) (h : ℕ) → IsBelowEach h (column (rows_to d depth) d f t h).bounds
  -- of what the first n columns from a place on are together, or all of them
  pub folds_stay : (f : Flow) (n : ℕ) (q : Token) (lo h : ℕ) → lo ≤ h
      → IsBelowEach h (filled_by f q (columns (rows_to d depth) d f n q lo)).bounds →
      FillStays (filled_by f q (columns (rows_to d depth) d f n q lo)) (filled_by f q (columns (rows_to d depth) d f n q h))
  -- so of what a row makes of a height
  pub fills_stay : FillsStay (rows_to d depth)
  -- of the columns that are judged
  pub judged_stay : (r : ℕ) (q : Token) (lo h : ℕ) → lo ≤ h → IsBelowEach h (bounds_of (judged (rows_to d depth) d r q lo)) →
      ColumnsStay (judged (rows_to d depth) d r q lo) (judged (rows_to d depth) d r q h)
  -- so a height fits just where the lower one does
  pub fits_stays : (r : ℕ) (q : Token) (lo h : ℕ) → lo ≤ h → IsBelowEach h (bounds_of (judged (rows_to d depth) d r q lo)) →
      fits (rows_to d depth) d r q h ≡ fits (rows_to d depth) d r q lo
