-- What a search for a row's least height finds (this project's own; CSS Multi-column 1, section 7.1, leaves the height of
-- balanced columns open).
use Rattle.std.specs.Prelude.{◌≡◌, ℕ, true, false, List, [], ◌++◌, Option, Some, None}
use Rattle.std.specs.List.{flat_map}
use Rattle.mc_base.specs.declared.fragment.FragId.{FragId}
use Rattle.flow_data.specs.declared.data.FlowsData.{FlowsData}
use Rattle.flow_list.specs.Certificate.{Use, range_uses, uses_of}
use Rattle.flow_list.specs.Ranges.{judged, ranges}
use Rattle.flow_list.specs.RowHeights.{balanced_fits, size_of}
use Rattle.flow_list.specs.Rows.{all_rows}
use Rattle.flow_list.specs.Tokens.{Token}
use Rattle.balancer.specs.declared.search.Found.{Found}

-- where there is a fragment the row fits what is available, and this height is its size; else it is too high
abbrev pub EndsAt : (available : Option ℕ) → (size height : ℕ) → Option FragId → Type 0
EndsAt available size height None = balanced_fits available size ≡ false
EndsAt available size height (Some frag) = (height ≡ size) × (balanced_fits available size ≡ true)

-- all ranges of row r from place q on where this much is available, and where they end
pub record IsFound (d : FlowsData) (r : ℕ) (q : Token) (available : Option ℕ) (out : Found) : Type 0 where
  pub ranges : out.ranges ≡ ranges (all_rows d) d r q available
  pub end : EndsAt available (size_of d r q) out.height out.frag

-- the sizes that the columns judged at a height use, where they make a fragment
abbrev pub fragment_uses : FlowsData → (r : ℕ) → (q : Token) → (height : ℕ) → Option FragId → List Use
fragment_uses d r q height None = []
fragment_uses d r q height (Some frag) = uses_of (judged (all_rows d) d r q height)

-- the sizes that a search used
abbrev pub found_uses : FlowsData → (r : ℕ) → (q : Token) → Found → List Use
found_uses d r q out = flat_map (range_uses d r q) out.ranges ++ fragment_uses d r q out.height out.frag
