-- What is known before an item of a column, and after it.
use Rattle.std.specs.Prelude.{◌≡◌, ℕ, ◌+◌, ◌^◌, ◌<◌, drop, sum_by}
use Rattle.flow_data.specs.declared.data.Flow.{Flow}
use Rattle.flow_data.specs.declared.data.FlowsData.{FlowsData}
use Rattle.flow_data.specs.Flows.{amount, boxes_in, item_of, seam_of}
use Rattle.flow_list.specs.ClonedEdges.{bottoms}
use Rattle.flow_list.specs.Column.{height_of}
use Rattle.flow_list.specs.Rows.{all_rows, amounts_in, heights_from}
use Rattle.flow_list.specs.Tokens.{Token, row_start}
use Rattle.column_strip.specs.declared.passing.Before.{Before}
use Rattle.column_strip.specs.declared.passing.Behind.{Behind}
use Rattle.column_strip.specs.Boxes.{IsAcross, IsOpen}

-- the height of item k, taken from a place in it: of a row it is its size from there
abbrev pub height_at : FlowsData → Flow → ℕ → Token → ℕ
height_at d f k q = height_of (all_rows d) (item_of f k) q

-- What stands before item k, which has this height, is of the boxes open there and of the seam before it, and leaves room below
-- 2^60 for the rest of the flow.
pub record IsBefore (d : FlowsData) (f : Flow) (k height : ℕ) (b : Before) : Type 0 where
  pub boxes : IsOpen d f k b.boxes
  pub level : b.level ≡ (seam_of f k).level
  pub room : b.strip.y + b.strip.pending + height + heights_from (all_rows d) row_start (drop (k + 1) f.items)
      + amounts_in (drop (k + 1) f.seams) + bottoms d (boxes_in f) < 2 ^ 60

-- and so does what stands after item k and the tail of the seam after it
pub record IsBehind (d : FlowsData) (f : Flow) (k : ℕ) (b : Behind) : Type 0 where
  pub across : IsAcross d f (k + 1) b.boxes
  pub level : b.level ≡ (seam_of f (k + 1)).level
  pub room : b.strip.y + b.strip.pending + sum_by amount (seam_of f (k + 1)).head
      + heights_from (all_rows d) row_start (drop (k + 1) f.items) + amounts_in (drop (k + 1 + 1) f.seams) + bottoms d
      (boxes_in f) < 2 ^ 60
