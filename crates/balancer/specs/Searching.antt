-- Where the search for a row's height begins (this project's own).
use Rattle.std.specs.Prelude.{ℕ}
use Rattle.flow_data.specs.declared.data.FlowsData.{FlowsData}
use Rattle.flow_data.specs.Flows.{flow_in, row_of}
use Rattle.flow_list.specs.Ranges.{Tallest, atoms_height, spread, tallest_from}
use Rattle.flow_list.specs.Rows.{all_rows, most_columns}
use Rattle.flow_list.specs.Tokens.{Token}

-- the atom of row r from place q on that needs most alone
abbrev pub tallest_in : FlowsData → (r : ℕ) → (q : Token) → Tallest
tallest_in d r q = tallest_from (all_rows d) d (flow_in d r) q

-- the least height at which its atoms have room in the columns that may be used
abbrev pub spread_of : FlowsData → (r : ℕ) → (q : Token) → ℕ
spread_of d r q = spread (atoms_height (flow_in d r) q) (most_columns (row_of d r).n (flow_in d r) q)
