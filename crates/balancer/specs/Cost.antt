-- How often items may be read in a search for a row's least height, and how often columns are made (this project's own).
use Rattle.std.specs.Prelude.{ℕ, ◌+◌, ◌-◌, ◌*◌, List, length, sum_by, Option, Some, None}
use Rattle.mc_base.specs.declared.fragment.FragId.{FragId}
use Rattle.flow_data.specs.declared.data.FlowsData.{FlowsData}
use Rattle.flow_data.specs.Flows.{flow_in}
use Rattle.flow_list.specs.Certificate.{columns_from}
use Rattle.flow_list.specs.Ranges.{Range, Reason, tall, area, left, bad, over, judged}
use Rattle.flow_list.specs.Rows.{all_rows}
use Rattle.flow_list.specs.Tokens.{Token, item_number}
use Rattle.column_row.specs.Folding.{looks_cost}

-- the number of items of row r's flow from place q on
abbrev pub items_left : FlowsData → (r : ℕ) → (q : Token) → ℕ
items_left d r q = length (flow_in d r).items - item_number q

-- the reads for the columns of row r that are judged at a height from place q on
abbrev pub judged_cost : FlowsData → (r : ℕ) → (q : Token) → (height : ℕ) → ℕ
judged_cost d r q height = looks_cost d (flow_in d r) q height (judged (all_rows d) d r q height)

-- the reads for all its columns at that height
abbrev pub columns_cost : FlowsData → (r : ℕ) → (q : Token) → (height : ℕ) → ℕ
columns_cost d r q height = looks_cost d (flow_in d r) q height (columns_from d r q height)

-- the reads for a range: no columns are made where an atom is too high, or where there is too much for the columns; else those
-- that are judged at its lowest height
abbrev pub cost_for : Reason → (cost : ℕ) → ℕ
cost_for (tall item) cost = 0
cost_for area cost = 0
cost_for (left at) cost = cost
cost_for (bad column) cost = cost
cost_for (over column) cost = cost

abbrev pub range_cost : FlowsData → (r : ℕ) → (q : Token) → Range → ℕ
range_cost d r q range = cost_for range.reason (judged_cost d r q range.low)

-- the reads for these ranges, after each item was read twice
abbrev pub ranges_cost : FlowsData → (r : ℕ) → (q : Token) → List Range → ℕ
ranges_cost d r q ranges = 2 * items_left d r q + sum_by (range_cost d r q) ranges

-- the reads for a balanced row with these ranges at a height
abbrev pub balanced_cost : FlowsData → (r : ℕ) → (q : Token) → List Range → (height : ℕ) → ℕ
balanced_cost d r q ranges height = ranges_cost d r q ranges + columns_cost d r q height

-- the reads, and the folds, for the last height of a search: its columns are made where there is a fragment
abbrev pub fragment_cost : FlowsData → (r : ℕ) → (q : Token) → (height : ℕ) → Option FragId → ℕ
fragment_cost d r q height None = 0
fragment_cost d r q height (Some frag) = judged_cost d r q height

abbrev pub fragment_folds : Option FragId → ℕ
fragment_folds None = 0
fragment_folds (Some frag) = 1
