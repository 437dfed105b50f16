-- The rows directly in stacks, found by their numbers.
use Rattle.std.specs.Prelude.{◌≡◌, ℕ, zero, suc, ◌==◌, ◌<◌, Bool, true, false, List, [], ◌∷◌, ◌++◌, filter, flat_map, get_or}
use Rattle.std.specs.Prelude.{length, Option, Some, None}
use Rattle.flow_list.specs.Data.{Bound, Flow, FlowsData, Free, Each, Left}
use Rattle.flow_data.specs.Flows.{flow_of, item_of, stack_of}
use Rattle.flow_list.specs.Certificate.{StackRow, numbers_below, stack_row, stack_rows}
use Rattle.flow_list.specs.RowHeights.{row_height}
use Rattle.frag_pool.specs.Nodes.{Nodes}
use Rattle.frag_pool.specs.Standing.{StandsFor}
use Rattle.container_layout.specs.Laid.{piece_in_stack}
use Rattle.container_layout.specs.declared.find.Found.{Found}
use Rattle.container_layout.specs.declared.lay.Stands.{Stands}

-- the rows directly in a stack, and in the first n of them
abbrev pub rows_of_stack : FlowsData → (s : ℕ) → List StackRow
rows_of_stack d s = stack_rows d (stack_of d s).bound (flow_of d (stack_of d s).flow) 0 (flow_of d (stack_of d s).flow).items

abbrev pub rows_of_stacks : FlowsData → (n : ℕ) → List StackRow
rows_of_stacks d n = flat_map (rows_of_stack d) (numbers_below n)

-- those among the first k items of a stack's flow
abbrev pub rows_before : FlowsData → Bound → Flow → (k : ℕ) → List StackRow
rows_before d bound f zero = []
rows_before d bound f (suc k) = rows_before d bound f k ++ stack_row d bound f k (item_of f k)

-- those of this number
abbrev pub numbered : (n : ℕ) → List StackRow → List StackRow
numbered n rows = filter (λ (r : StackRow). r.row == n) rows

-- the row that was found under a number
abbrev pub row_found : (n : ℕ) → Option Found → List StackRow
row_found n None = []
row_found n (Some found) = record { row = n; available = found.available } ∷ []

-- a table has these rows, each under its number
pub record HasFound (d : FlowsData) (rows : List StackRow) (table : List (Option Found)) : Type 0 where
  pub count : length table ≡ length d.rows
  pub each : (n : ℕ) → n < length d.rows → numbered n rows ≡ row_found n (get_or table n None)

-- whether what is available to rows doesn't depend on where they begin
abbrev pub rows_are_alike : Bound → Bool
rows_are_alike Free = true
rows_are_alike (Each height) = true
rows_are_alike (Left height) = false

-- ---- the rows as they stand in stacks

-- a row directly in a stack, as it stands there
pub record IsStanding (d : FlowsData) (p : Nodes) (n : ℕ) (stands : Stands) : Type 0 where
  pub height : stands.height ≡ row_height d n stands.available
  pub frag : StandsFor p stands.frag (piece_in_stack d n stands.available (Some (row_height d n stands.available)))

-- the rows of a number that are laid out
abbrev pub row_standing : (n : ℕ) → Option Stands → List StackRow
row_standing n None = []
row_standing n (Some stands) = record { row = n; available = stands.available } ∷ []

-- a table has these rows laid out, as far as the table goes
pub record HasStanding (d : FlowsData) (p : Nodes) (rows : List StackRow) (table : List (Option Stands)) : Type 0 where
  pub found : (n : ℕ) → n < length table → numbered n rows ≡ row_standing n (get_or table n None)
  pub stand : (n : ℕ) (stands : Stands) → n < length table → get_or table n None ≡ Some stands → IsStanding d p n stands
