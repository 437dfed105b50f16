-- A row at its least height, or at what is available where that is less (this project's own; CSS Multi-column 1, section 7.1,
-- leaves the height of balanced columns open).
use Rattle.std.specs.Prelude.{◌≡◌, ℕ, ◌-◌, ◌^◌, cond, List, ◌++◌, nat_lt, Option, Some, None}
use Rattle.std.specs.List.{flat_map}
use Rattle.flow_data.specs.declared.data.FlowsData.{FlowsData}
use Rattle.flow_list.specs.Certificate.{Use, range_uses, uses_of, columns_from}
use Rattle.flow_list.specs.Ranges.{ranges}
use Rattle.flow_list.specs.RowHeights.{size_of, balanced_height, balanced_fits}
use Rattle.flow_list.specs.Rows.{all_rows}
use Rattle.flow_list.specs.Tokens.{Token}
use Rattle.balancer.specs.declared.balancing.Balanced.{Balanced}

-- the height of row r from a place on where this much is available, whether it fits, and the ranges of lesser heights
pub record IsBalanced (d : FlowsData) (r : ℕ) (q : Token) (available : Option ℕ) (out : Balanced) : Type 0 where
  pub height : out.height ≡ balanced_height available (size_of d r q)
  pub fits : out.fits ≡ balanced_fits available (size_of d r q)
  pub rejected : out.ranges ≡ ranges (all_rows d) d r q available

-- the sizes that it uses: those of the columns that its ranges speak of, and then those of its own columns
unfoldable pub balanced_uses : FlowsData → (r : ℕ) → (q : Token) → Option ℕ → List Use
balanced_uses d r q available =
    flat_map (range_uses d r q) (ranges (all_rows d) d r q available)
    ++ uses_of (columns_from d r q (balanced_height available (size_of d r q)))

-- what is available, and no limit where that is the greatest number of 64 bits, or above
abbrev pub limit_of : Option ℕ → Option ℕ
limit_of None = None
limit_of (Some available) = cond (nat_lt available (2 ^ 64 - 1)) (Some available) None
