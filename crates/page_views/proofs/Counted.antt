-- What stands first in a tree, how items add up, and that columns are counted among lines as they are kept.
use Rattle.std.proofs.Common.{◌≡◌, ℕ, zero, suc, ◌+◌, ◌^◌, ◌<◌, List, [], ◌∷◌, length, take, get_or, cond, refl, sym, ap}
use Rattle.std.proofs.Common.{◌∙◌, arith, sum_by}
use Rattle.std.specs.Prelude.{count_by}
use Rattle.std.proofs.lemmas.List.Sums.{sum_by-cons, sum_by-le, sum_by_more_le}
use Rattle.flow_data.specs.declared.data.Flow.{Flow}
use Rattle.flow_data.specs.declared.data.FlowsData.{FlowsData}
use Rattle.flow_data.specs.Flows.{no_flow}
use Rattle.flow_data.specs.Soundness.{IsSound}
use Rattle.flow_list.specs.Stacks.{stack_height}
use Rattle.flow_list.specs.Tree.{TreeLine as AnyLine, lines_of_stack, tree_of}
use Rattle.mc_draw.specs.Shapes.{height_of}
use Rattle.tree_lines.specs.declared.line.TreeLine.{TreeLine}
use Rattle.tree_lines.specs.Lines.{kind_of, line_of, lines_of}
use Rattle.page_views.specs.Views.{is_column, columns_in}

pub columns_kept : (lines : List TreeLine) → count_by (λ (l : TreeLine). is_column (kind_of l.kind)) lines ≡ columns_in
    (lines_of lines)
columns_kept [] = refl
columns_kept (l ∷ ls) =
    sum_by-cons (λ (m : TreeLine). cond (is_column (kind_of m.kind)) 1 0) l ls
    ∙ ap (λ n. cond (is_column (kind_of l.kind)) 1 0 + n) (columns_kept ls)
    ∙ sym (sum_by-cons (λ (m : AnyLine). cond (is_column m.kind) 1 0) (line_of l) (lines_of ls))

stack_first : (d : FlowsData) (n : ℕ) → 0 < n → height_of (lines_of_stack d n 0 0 0 0) ≡ stack_height d 0
unfolding lines_of_stack
stack_first d zero h = omega arith
stack_first d (suc n) h = refl

-- the first line of a tree is that of stack 0
pub first_is_stack : (d : FlowsData) → 0 < length d.stacks → height_of (tree_of d) ≡ stack_height d 0
unfolding tree_of
first_is_stack d h = stack_first d (length d.stacks) h

-- the items of all flows have a number of 64 bits
pub items_fit : (d : FlowsData) → IsSound d → (f : ℕ) → f < length d.flows
    → sum_by (λ (g : Flow). length g.items) (take f d.flows) + length (get_or d.flows f no_flow).items < 2 ^ 64
items_fit d sound f known =
    let most = sum_by-le (λ (g : Flow). length g.items) (2 ^ 32) d.flows (λ k g h.
    let few = (sound.flows k g h).count in omega (arith, few)) in
    let part = sum_by_more_le (λ (g : Flow). length g.items) d.flows f no_flow known in
    let flows = sound.flow_count in
    omega (arith, most, part, flows)
