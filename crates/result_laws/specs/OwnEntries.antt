-- The entries that the definitions of the layout give, as a result that has them is tested (this project's own).
use Rattle.std.specs.Prelude.{◌≡◌, ℕ, ◌<◌, Bool, true, false, List, [], ◌∷◌, length, map, Option, Some, None}
use Rattle.flow_list.specs.Data.{FlowsData}
use Rattle.flow_data.specs.Flows.{row_of, flow_in}
use Rattle.flow_list.specs.Tokens.{Token, row_start, IsPlace}
use Rattle.flow_list.specs.Rows.{all_rows}
use Rattle.flow_list.specs.RowHeights.{size_of, row_height, balanced_fits}
use Rattle.flow_list.specs.Ranges.{lines_of, ranges}
use Rattle.flow_list.specs.Certificate.{size_ranges}
use Rattle.flow_laws.specs.RangeLaws.{told_of}
use Rattle.result_laws.specs.Failure.{Pass}
use Rattle.result_laws.specs.Given.{size, balanced, GivenRange, GivenEntry}
use Rattle.result_laws.specs.Clauses.{name, twice, avail, same, tells, cite, number, cite_height, as_range, given_lines}
use Rattle.result_laws.specs.Verdict.{entry_tests}

-- the column lines of a range are those of the columns that its reason speaks of
abbrev pub Tells : FlowsData → ℕ → Token → GivenRange → Type 0
Tells d r q x = given_lines x ≡ lines_of (told_of d r q x.low x.reason)

-- What is left to test of ranges that are the layout's own: no two neighbours are alike, and what the columns of each use and
-- cite stands before, with these numbers.
abbrev pub RestHolds : FlowsData → ℕ → Token → Bool → List GivenEntry → Option GivenRange → List GivenRange → Type 0
RestHolds d r q cites before last [] = Unit {0}
RestHolds d r q cites before last (x ∷ xs) = (same last x ≡ None)
    × (tells x.reason ≡ true → (cite d before r q x ≡ None) × (number d cites before r q x ≡ None))
    × RestHolds d r q cites before (Some x) xs

-- and of the entry: its row, place and kind are so, it stands once, what is available to it is so, and what its own columns use
-- stands before
abbrev pub StandsWell : FlowsData → List GivenEntry → GivenEntry → Type 0
StandsWell d before e = (name d e ≡ None) × (twice before e ≡ None) × (avail d before e ≡ None) × (cite_height d before e ≡ None)

-- The law: an entry with the layout's own height and ranges passes its tests where what is left to test holds.
pub record OwnEntriesPass (d : FlowsData) : Type 0 where
  -- the entry of a size
  pub size : (r : ℕ) → r < length d.rows → (q : Token) → IsPlace d (flow_in d r) q → (cites : Bool) (before : List GivenEntry)
      (at : ℕ) (xs : List GivenRange) → map as_range xs ≡ size_ranges d r q → RestHolds d r q cites before None xs →
      let e : GivenEntry = record { at = at; head = size r q (size_of d r q); ranges = xs } in
      StandsWell d before e → Pass (entry_tests d cites before e)
  -- the entry of a balanced row directly in a stack, where this much is available
  pub balanced_row : (r : ℕ) → r < length d.rows → (a : Option ℕ) → (row_of d r).auto ≡ false → (cites : Bool)
      (before : List GivenEntry) (at : ℕ) (xs : List GivenRange) → map as_range xs ≡ ranges (all_rows d) d r row_start a →
      RestHolds d r row_start cites before None xs →
      let e : GivenEntry =
      record { at = at; head = balanced r a (row_height d r a) (balanced_fits a (size_of d r row_start)); ranges = xs } in
      StandsWell d before e → Pass (entry_tests d cites before e)
