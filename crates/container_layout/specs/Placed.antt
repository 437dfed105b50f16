-- What is laid and placed in a stack.
use Rattle.std.specs.Prelude.{ℕ, ◌+◌, false, List, ◌∷◌, ◌++◌, length}
use Rattle.flow_list.specs.Data.{Bound, Flow, FlowsData, Stack}
use Rattle.flow_list.specs.ClonedEdges.{tops}
use Rattle.flow_data.specs.Flows.{flow_of, item_of, seam_of}
use Rattle.flow_list.specs.Fragments.{continued_from, laid_in_stack, stack_laid}
use Rattle.flow_list.specs.Placing.{Laid, laid_edges, Placed, places_from}
use Rattle.flow_list.specs.Strip.{begins, lay_all, put, strip_at}
use Rattle.flow_list.specs.Stacks.{height_in_stack, stack_strip}
use Rattle.frag_pool.specs.Nodes.{Nodes}
use Rattle.frag_maker.specs.Building.{IsMade, laid_row}
use Rattle.frag_maker.specs.declared.placed.MadeRow.{MadeRow}
use Rattle.mc_base.specs.PlainTree.{plain_trees}
use Rattle.std.specs.Prelude.{All}
use Rattle.container_layout.specs.Laid.{columns_in}

-- all that is laid in a stack
abbrev pub laid_in : FlowsData → Stack → List Laid
laid_in d s =
    let f = flow_of d s.flow in
    laid_edges (strip_at (tops d f.opened) false) (seam_of f 0).head ++ stack_laid d s.bound f 0 (length f.items)

-- the places of this in a stack, below the cloned edges of the boxes that are open there
abbrev pub places_in : FlowsData → Stack → List Laid → List Placed
places_in d s laid =
    let f = flow_of d s.flow in
    continued_from d 0 f.opened ++ places_from (length laid + 1) (tops d f.opened) laid

-- item k of a stack, with the seam after it
abbrev pub stack_item : FlowsData → Bound → Flow → (k : ℕ) → List Laid
stack_item d bound f k =
    let s = stack_strip d bound f k in
    let behind = put s (height_in_stack d bound (item_of f k) (begins s)) in
    laid_in_stack d bound f k (item_of f k)
    ∷ laid_edges behind (seam_of f (k + 1)).tail ++ laid_edges (lay_all behind (seam_of f (k + 1)).tail) (seam_of f (k + 1)).head

-- what is made of each of these rows has the trees of its columns
abbrev pub AllHaveColumns : FlowsData → Nodes → List MadeRow → Type 0
AllHaveColumns d p rows = All (λ (r : MadeRow). IsMade p (plain_trees (columns_in d (laid_row r))) r) rows
