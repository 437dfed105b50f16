-- Ranges whose reasons hold, and that leave no height out, decide the size of a row (this project's own; CSS Multi-column 1,
-- section 7.1, leaves the height of balanced columns open).
use Rattle.std.specs.Prelude.{◌≡◌, ℕ, ◌+◌, ◌<◌, true, false, List, Some, All}
use Rattle.flow_list.specs.Data.{FlowsData}
use Rattle.flow_list.specs.Tokens.{Token}
use Rattle.flow_list.specs.Rows.{fits, all_rows}
use Rattle.flow_list.specs.Ranges.{Range, RangeRejects}
use Rattle.flow_list.specs.RowHeights.{size_of, balanced_height, balanced_fits}
use Rattle.flow_laws.specs.RangeLaws.{FollowOn}

-- the reason of each of these ranges holds
abbrev pub EachRejects : FlowsData → ℕ → Token → List Range → Type 0
EachRejects d r q xs = All (λ (x : Range). RangeRejects (all_rows d) d r q x.low x.high x.reason) xs

-- a row of this size doesn't fit where this much is available, and is as high as that
pub record IsTooHigh (available size : ℕ) : Type 0 where
  pub size_above : available < size
  pub answer_no : balanced_fits (Some available) size ≡ false
  pub height : balanced_height (Some available) size ≡ available

-- The law, of row r of sound flows from a place on, whoever gives the ranges.
pub record RangesDecide (d : FlowsData) (r : ℕ) (q : Token) : Type 0 where
  -- where they go from 0 up to a height that fits, this is the size
  pub size_reached : (h : ℕ) (xs : List Range) → FollowOn 0 h xs → EachRejects d r q xs → fits (all_rows d) d r q h ≡ true →
      h ≡ size_of d r q
  -- where they go from 0 up to one above what is available, the row doesn't fit
  pub available_passed : (available : ℕ) (xs : List Range) → FollowOn 0 (available + 1) xs → EachRejects d r q xs →
      IsTooHigh available (size_of d r q)
