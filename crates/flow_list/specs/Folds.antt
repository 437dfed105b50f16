-- What is told of columns that were made one after another at a height: of those that a fold makes, and of those of a fill (this
-- project's own).
use Rattle.std.specs.Prelude.{ℕ, ◌-◌, min, Bool, List, [], ◌∷◌, length, fold, Option, Some, None}
use Rattle.flow_data.specs.declared.data.Flow.{Flow}
use Rattle.flow_data.specs.declared.data.FlowsData.{FlowsData}
use Rattle.flow_data.specs.Flows.{row_of, flow_in}
use Rattle.flow_list.specs.Tokens.{Token}
use Rattle.flow_list.specs.Column.{Column, ColumnLine, Inner}
use Rattle.flow_list.specs.Rows.{columns, reach_end, filled_by}
use Rattle.flow_list.specs.RowHeights.{any_unforced, greatest_extent}
use Rattle.flow_list.specs.Ranges.{to_failure}

-- how far the least of these bounds is above a height; none where there is no bound
abbrev pub shortage : ℕ → List ℕ → Option ℕ
shortage h [] = None
shortage h (b ∷ bs) = Some (fold min b bs - h)

-- How many columns there are, where they end and whether that is the flow's end, whether they reach it and none breaks a rule,
-- and whether one of them ended at a break that wasn't forced. Then the greatest level, whether one overflows, the greatest
-- extent; and up to the first that overflows the shortage of their bounds and their lines.
pub record Folded : Type 0 where
  pub columns : ℕ
  pub end : Token
  pub at_end : Bool
  pub fits : Bool
  pub unforced : Bool
  pub level : ℕ
  pub overflow : Bool
  pub extent : ℕ
  pub short : Option ℕ
  pub lines : List ColumnLine

-- this of these columns of a flow from place q on, made at height h
abbrev pub folded_by : Flow → (q : Token) → (h : ℕ) → List Column → Folded
folded_by f q h cs = record {
  columns = length cs;
  end = (filled_by f q cs).end;
  at_end = (filled_by f q cs).at_end;
  fits = reach_end f q cs;
  unforced = any_unforced f cs;
  level = (filled_by f q cs).level;
  overflow = (filled_by f q cs).overflow;
  extent = greatest_extent cs;
  short = shortage h (filled_by f q cs).bounds;
  lines = (filled_by f q cs).lines;
}

-- which columns are made: all that are asked for, or those up to and with the first that breaks a rule
pub data Folding : Type 0 where
  every : Folding
  fitting : Folding

-- the columns that are made of a flow from place q on at height h, of which most are asked for
abbrev pub columns_made : Folding → Inner → FlowsData → Flow → (most : ℕ) → (q : Token) → (h : ℕ) → List Column
columns_made every inner d f most q h = columns inner d f most q h
columns_made fitting inner d f most q h = to_failure (columns inner d f most q h)

-- what a fold of row r tells
abbrev pub fold_in : Folding → Inner → FlowsData → (r most : ℕ) → (q : Token) → (h : ℕ) → Folded
fold_in folding inner d r most q h = folded_by (flow_in d r) q h (columns_made folding inner d (flow_in d r) most q h)

-- and what a fill of it does, which makes all columns that the row has, or those up to its end
abbrev pub fill_told : Inner → FlowsData → (r : ℕ) → (q : Token) → (h : ℕ) → Folded
fill_told inner d r q h = fold_in every inner d r (row_of d r).n q h
