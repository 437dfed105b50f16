-- Two reasons for which no height of a range fits (this project's own): an atom is too high after an unforced break, or there is
-- too much for the columns to hold.
use Rattle.std.specs.Prelude.{◌≡◌, ℕ, ◌*◌, ◌<◌, ◌≤◌, false, length, drop, sum_by}
use Rattle.flow_list.specs.Data.{FlowsData}
use Rattle.flow_data.specs.Flows.{row_of, flow_in, item_of, atom_height}
use Rattle.flow_list.specs.Atoms.{IsAtom}
use Rattle.flow_list.specs.Tokens.{Token, item_number}
use Rattle.flow_list.specs.Column.{loose_need}
use Rattle.flow_list.specs.Rows.{fits, most_columns, all_rows}

-- The law, of row r of sound flows from a place on.
pub record TallAndAreaReject (d : FlowsData) (r : ℕ) (q : Token) : Type 0 where
  -- no height fits that is below what an atom needs in a column after an unforced break
  pub tall_rejects : (k h : ℕ) → item_number q ≤ k → k < length (flow_in d r).items → IsAtom (item_of (flow_in d r) k)
      → h < loose_need (all_rows d) d (flow_in d r) k →
      fits (all_rows d) d r q h ≡ false
  -- nor one at which the heights of the atoms add up to more than the columns that may be used can hold
  pub area_rejects : (h : ℕ) → most_columns (row_of d r).n (flow_in d r) q * h < sum_by atom_height
      (drop (item_number q) (flow_in d r).items) →
      fits (all_rows d) d r q h ≡ false
