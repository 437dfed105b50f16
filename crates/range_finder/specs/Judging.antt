-- What is told of the columns that are judged at a height, and the range that begins there (this project's own).
use Rattle.std.specs.Prelude.{◌≡◌, ℕ, ◌<◌, min, cond, List, [], ◌∷◌, nat_lt, Option, Some, None, All}
use Rattle.flow_data.specs.Flows.{row_of, flow_in}
use Rattle.flow_list.specs.Data.{FlowsData}
use Rattle.flow_list.specs.Column.{Inner, rank}
use Rattle.flow_list.specs.Folds.{Folded, fitting, fold_in}
use Rattle.flow_list.specs.Ranges.{Range, Reason, left, bad, over, judged, bounds_of}
use Rattle.flow_list.specs.Rows.{most_columns}
use Rattle.flow_list.specs.Tokens.{Token}
use Rattle.range_finder.specs.declared.next.Judged.{Judged}

-- a value that says what is told of columns
pub record IsTold (told : Folded) (out : Judged) : Type 0 where
  pub columns : out.columns ≡ told.columns
  pub end : out.end ≡ told.end
  pub at_end : out.at_end ≡ told.at_end
  pub level : rank out.level ≡ told.level
  pub overflow : out.overflow ≡ told.overflow
  pub short : out.short ≡ told.short
  pub lines : out.lines ≡ told.lines

-- a value that says what is told of the columns of row r that are judged at a height from place q on; their bounds are above it
pub record IsJudged (inner : Inner) (d : FlowsData) (r : ℕ) (q : Token) (low : ℕ) (out : Judged) : Type 0 where
  pub told : IsTold (fold_in fitting inner d r (most_columns (row_of d r).n (flow_in d r) q) q low) out
  pub above : All (λ b. low < b) (bounds_of (judged inner d r q low))

-- the reason that what is told of judged columns gives: one overflows, one ends at a bad break, or they leave a place
abbrev pub reason_in : Folded → Option Reason
reason_in told =
    cond told.overflow (Some (over told.columns))
    (cond (nat_lt 0 told.level) (Some (bad told.columns)) (cond told.at_end None (Some (left told.end))))

-- the lesser of two heights, where there are any
abbrev pub lesser : Option ℕ → Option ℕ → Option ℕ
lesser None b = b
lesser (Some a) None = Some a
lesser (Some a) (Some b) = Some (min a b)

-- a range and then those from its end on, or none
abbrev pub goes_on : Option Range → (ℕ → List Range) → List Range
goes_on None later = []
goes_on (Some range) later = range ∷ later range.high

-- a range as a list of one, or none
abbrev pub as_list : Option Range → List Range
as_list None = []
as_list (Some range) = range ∷ []
