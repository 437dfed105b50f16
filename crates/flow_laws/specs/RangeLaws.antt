-- No height of a range fits whose reason holds, and the ranges that are given for a row are such ranges, one after another up to
-- its size (this project's own: CSS Multi-column 1, section 7.1, leaves the height of balanced columns open).
use Rattle.std.specs.Prelude.{◌≡◌, ℕ, ◌+◌, ◌<◌, ◌≤◌, min, false, List, [], ◌∷◌, Option, Some, None, All}
use Rattle.flow_list.specs.Data.{FlowsData}
use Rattle.flow_list.specs.Tokens.{Token}
use Rattle.flow_list.specs.Column.{Column}
use Rattle.flow_list.specs.Ranges.{Range, Reason, tall, area, left, bad, over, RangeRejects, judged, lines_of, ranges}
use Rattle.flow_list.specs.Rows.{fits, size_in, all_rows}

-- The law of a range, of row r of sound flows from a place on: where its reason holds, no height in it fits.
abbrev pub RangesReject : FlowsData → ℕ → Token → Type 0
RangesReject d r q = (low high h : ℕ) (reason : Reason) → RangeRejects (all_rows d) d r q low high reason → low ≤ h → h < high
    → fits (all_rows d) d r q h ≡ false

-- ---- all ranges of a row

-- these ranges go from one height up to another: each begins where the one before it ended, and none is empty
abbrev pub FollowOn : (low high : ℕ) → List Range → Type 0
FollowOn low high [] = low ≡ high
FollowOn low high (x ∷ xs) = (x.low ≡ low) × (low < x.high) × FollowOn x.high high xs

-- the columns that a reason speaks of at this height: those that are judged, where it speaks of columns
abbrev pub told_of : FlowsData → ℕ → Token → ℕ → Reason → List Column
told_of d r q low (tall k) = []
told_of d r q low area = []
told_of d r q low (left at) = judged (all_rows d) d r q low
told_of d r q low (bad c) = judged (all_rows d) d r q low
told_of d r q low (over c) = judged (all_rows d) d r q low

-- up to where the ranges go: the size, or one above what is available where that is less
abbrev pub ranged_to : Option ℕ → ℕ → ℕ
ranged_to None size = size
ranged_to (Some available) size = min size (available + 1)

-- The law of all ranges, of row r of sound flows from a place on where this much is available.
pub record RangesAccount (d : FlowsData) (r : ℕ) (q : Token) (available : Option ℕ) : Type 0 where
  -- the reason of each range holds, so no height in it fits
  pub each_rejects : All (λ (x : Range). RangeRejects (all_rows d) d r q x.low x.high x.reason)
      (ranges (all_rows d) d r q available)
  -- its lines are those of the columns that its reason speaks of at its least height
  pub each_tells : All (λ (x : Range). x.lines ≡ lines_of (told_of d r q x.low x.reason)) (ranges (all_rows d) d r q available)
  -- one after another they go from 0 up to the size, or up to one above what is available where that is less
  pub follow_on : FollowOn 0 (ranged_to available (size_in (all_rows d) d r q)) (ranges (all_rows d) d r q available)
