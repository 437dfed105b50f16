-- How many items a column has to be asked for (this project's own).
use Rattle.std.specs.Prelude.{ℕ, ◌+◌, ◌*◌, length, Option, Some, None}
use Rattle.flow_list.specs.Data.{Flow, FlowsData}
use Rattle.flow_list.specs.Tokens.{Token}
use Rattle.flow_list.specs.Column.{Inner, Step, cut, steps_from}

abbrev pub stop_count : Option Step → ℕ
stop_count None = 0
stop_count (Some s) = 1

-- the items of the column from a place on at a height: through its stop, or through the last one before a forced break or the end
unfoldable pub looks : Inner → FlowsData → Flow → Token → ℕ → ℕ
looks inner d f t h = length (cut h (steps_from inner d f t)).before + stop_count (cut h (steps_from inner d f t)).stop

-- how often items may be read for it
abbrev pub look_cost : Inner → FlowsData → Flow → Token → ℕ → ℕ
look_cost inner d f t h = 2 * looks inner d f t h + 2
