-- Stacks: flows that are laid outside any columns, in one column without end (CSS 2.1, section 9.4.1; that breaks have no effect
-- there is this project's own).
use Rattle.std.specs.Prelude.{ℕ, zero, suc, ◌+◌, ◌-◌, ◌==◌, max, false, cond, length, Option, Some, None}
use Rattle.flow_list.specs.Data.{Bound, Flow, FlowsData, Item, Free, Each, Left, Atom, Row}
use Rattle.flow_data.specs.Flows.{flow_of, stack_of, item_of, seam_of}
use Rattle.flow_list.specs.ClonedEdges.{open_across, tops, bottoms}
use Rattle.flow_list.specs.RowHeights.{row_height}
use Rattle.flow_list.specs.Strip.{Strip, strip_at, put, lay_all, begins}

-- The height that is available to a row directly in a stack, where it begins: any, this much, or what is left of the stack's own
-- height, at least 1px.
abbrev pub available_at : Bound → ℕ → Option ℕ
available_at Free x = None
available_at (Each height) x = Some height
available_at (Left height) x = Some (max 64 (height - x))

-- the height of an item in a stack, where it begins
abbrev pub height_in_stack : FlowsData → Bound → Item → ℕ → ℕ
height_in_stack d bound (Atom height kind) x = height
height_in_stack d bound (Row r) x = row_height d r (available_at bound x)

-- the strip of a stack's flow before its item k, after the head of seam k
unfoldable pub stack_strip : FlowsData → Bound → Flow → ℕ → Strip
stack_strip d bound f zero = lay_all (strip_at (tops d (open_across f 0)) false) (seam_of f 0).head
stack_strip d bound f (suc k) =
    let s = stack_strip d bound f k in
    lay_all (lay_all (put s (height_in_stack d bound (item_of f k) (begins s))) (seam_of f (suc k)).tail) (seam_of f (suc k)).head

-- how far a stack's flow reaches
abbrev pub stack_extent : FlowsData → Bound → Flow → ℕ
stack_extent d bound f = (stack_strip d bound f (length f.items)).y + bottoms d (open_across f (length f.items))

-- the height that a bound gives its stack, where it does
abbrev pub own_height : Bound → ℕ → ℕ
own_height Free extent = extent
own_height (Each height) extent = extent
own_height (Left height) extent = height

-- The height of a stack: the document is as high as its flow reaches, the inside of a container with a height is as high as that.
unfoldable pub stack_height : FlowsData → ℕ → ℕ
stack_height d s =
    let f = flow_of d (stack_of d s).flow in
    let bound = (stack_of d s).bound in
    cond (s == 0) (stack_extent d bound f) (own_height bound (stack_extent d bound f))

-- the height that is available to item k of a stack's flow, where that is a row
abbrev pub available_to : FlowsData → Bound → Flow → ℕ → Option ℕ
available_to d bound f k = available_at bound (begins (stack_strip d bound f k))
