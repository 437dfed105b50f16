-- Each line of columns cites sizes that stand before it (this project's own).
use Rattle.std.specs.Prelude.{◌≡◌, ℕ, List, [], length, Option, All, ◌⊎◌}
use Rattle.flow_list.specs.Data.{FlowsData}
use Rattle.flow_list.specs.Tokens.{Token}
use Rattle.flow_list.specs.Rows.{all_rows}
use Rattle.flow_list.specs.Ranges.{Range, ranges}
use Rattle.flow_list.specs.Certificate.{Use, range_owned, range_uses}
use Rattle.flow_list.specs.Book.{AllStand}

-- there is one list of sizes for each line of the range, where it has lines
abbrev pub HasListForEachLine : FlowsData → ℕ → Token → Range → Type 0
HasListForEachLine d r q x = (x.lines ≡ []) ⊎ (length (range_owned d r q x) ≡ length x.lines)

-- in each book that holds the sizes that a range uses, the sizes of these lists stand, where it has lines
abbrev pub CitesStand : FlowsData → ℕ → Token → Range → Type 0
CitesStand d r q x = (x.lines ≡ []) ⊎ ((book : List Use) → AllStand book (range_uses d r q x) →
    All (AllStand book) (range_owned d r q x))

-- The law, of row r of sound flows from a place on where this much is available.
pub record LinesCite (d : FlowsData) (r : ℕ) (q : Token) (available : Option ℕ) : Type 0 where
  -- each line of a range has its list
  pub one_list_each : All (HasListForEachLine d r q) (ranges (all_rows d) d r q available)
  -- and what it cites is among what the range uses
  pub cites_stand : All (CitesStand d r q) (ranges (all_rows d) d r q available)
