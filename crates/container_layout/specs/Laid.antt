-- Stacks and the rows directly in them as they were laid out (CSS 2.1, section 9.4.1; CSS Multi-column 1, section 7).
use Rattle.std.specs.Prelude.{◌≡◌, ℕ, suc, ◌<◌, Bool, false, cond, List, [], ◌∷◌, length, slice_get, Option, Some}
use Rattle.mc_base.specs.PlainTree.{PlainTree, plain_trees, row_piece}
use Rattle.flow_list.specs.Data.{FlowsData, Stack}
use Rattle.flow_data.specs.Flows.{row_of, flow_in, stack_of}
use Rattle.flow_list.specs.Certificate.{Use, StackRow, row_book, row_ranges}
use Rattle.flow_list.specs.Fragments.{row_fragments, stack_fragment}
use Rattle.flow_list.specs.Placing.{RowLaid}
use Rattle.flow_list.specs.RowHeights.{balanced_fits, balanced_height, columns_of_row, row_height, size_of}
use Rattle.flow_list.specs.Rows.{reach_end}
use Rattle.flow_list.specs.Stacks.{stack_height}
use Rattle.flow_list.specs.Tokens.{row_start}
use Rattle.flow_list.specs.declared.laid.LaidRow.{LaidRow}
use Rattle.flow_list.specs.declared.laid.LaidStack.{LaidStack}
use Rattle.frag_pool.specs.Nodes.{Nodes, IsKept}
use Rattle.frag_pool.specs.Standing.{StandsFor}

-- ---- rows

-- a row as it is laid in a stack where this much is available
abbrev pub in_stack : FlowsData → (r : ℕ) → Option ℕ → RowLaid
in_stack d r available = record {
  row = r;
  from = row_start;
  height = row_height d r available;
  made_at = cond (row_of d r).auto available (Some (balanced_height available (size_of d r row_start)));
  filled = false;
}

-- the trees of its columns
abbrev pub columns_in : FlowsData → RowLaid → List PlainTree
columns_in d r = row_fragments d (suc (length d.rows)) r

-- a piece of it at the top, with its columns and this height or none
abbrev pub piece_in_stack : FlowsData → (r : ℕ) → (available height : Option ℕ) → PlainTree
piece_in_stack d r available height = row_piece r row_start 0 height (plain_trees (columns_in d (in_stack d r available)))

-- whether it fits: a balanced row where its size is available, one with `column-fill: auto` where no column breaks a rule
abbrev pub row_fits : FlowsData → (r : ℕ) → Option ℕ → Bool
row_fits d r available = cond (row_of d r).auto (reach_end (flow_in d r) row_start (columns_of_row d r available))
    (balanced_fits available (size_of d r row_start))

-- what was laid out of a row directly in a stack
pub record IsLaidRow (d : FlowsData) (p : Nodes) (r : StackRow) (out : LaidRow) : Type 0 where
  pub row : out.row ≡ r.row
  pub available : out.available ≡ r.available
  pub height : out.height ≡ row_height d r.row r.available
  pub auto : out.auto ≡ (row_of d r.row).auto
  pub fits : out.fits ≡ row_fits d r.row r.available
  pub ranges : out.ranges ≡ row_ranges d r.row r.available
  pub kept : IsKept out.frag
  pub frag : StandsFor p out.frag (piece_in_stack d r.row r.available (Some (row_height d r.row r.available)))

-- These were laid out of these rows, in order, after a book of sizes: before each row stand the sizes that it uses.
abbrev pub AreLaidAfter : FlowsData → Nodes → List Use → List StackRow → List LaidRow → Type 0
AreLaidAfter d p book [] [] = Unit {0}
AreLaidAfter d p book [] (out ∷ outs) = ⊥
AreLaidAfter d p book (r ∷ rs) [] = ⊥
AreLaidAfter d p book (r ∷ rs) (out ∷ outs) =
    IsLaidRow d p r out × (out.before ≡ length (row_book d book r)) × AreLaidAfter d p (row_book d book r) rs outs

-- ---- stacks

-- this is one of the stacks
pub record IsStack (d : FlowsData) (stack : Stack) : Type 0 where
  pub number : ℕ
  pub known : number < length d.stacks
  pub is : stack ≡ stack_of d number

-- what was laid out of a stack
pub record IsLaidStack (d : FlowsData) (p : Nodes) (s : ℕ) (out : LaidStack) : Type 0 where
  pub height : out.height ≡ stack_height d s
  pub kept : IsKept out.frag
  pub frag : StandsFor p out.frag (stack_fragment d s)

-- what was laid out of the first stacks, by their numbers
abbrev pub AreLaidStacks : FlowsData → Nodes → List LaidStack → Type 0
AreLaidStacks d p outs = (s : ℕ) (out : LaidStack) → slice_get outs s ≡ Some out → IsLaidStack d p s out
