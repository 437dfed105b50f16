-- Layouts of flows, and what is printed of them.
use Rattle.std.specs.Prelude.{◌≡◌, ℕ, Some, length, slice_get}
use Rattle.flow_list.specs.Data.{FlowsData}
use Rattle.flow_list.specs.declared.laid.Laid.{Laid}
use Rattle.flow_list.specs.declared.laid.LaidStack.{LaidStack}
use Rattle.flow_list.specs.Fragments.{stack_fragment}
use Rattle.flow_list.specs.Stacks.{stack_height}
use Rattle.flow_list.specs.Tree.{tree_of}
use Rattle.frag_pool.specs.Nodes.{Nodes}
use Rattle.frag_pool.specs.Standing.{StandsFor}
use Rattle.tree_lines.specs.Shown.{Given, given_lines, StackFits}

-- What was laid out is the layout of the flows: each stack has the height that the definitions give it, and its id stands for
-- the stack's tree (CSS 2.1, section 9.4.1; CSS Fragmentation 3, section 2).
pub record IsLayout (d : FlowsData) (laid : Laid) (p : Nodes) : Type 0 where
  pub count : length laid.stacks ≡ length d.stacks
  pub height : (s : ℕ) (entry : LaidStack) → slice_get laid.stacks s ≡ Some entry → entry.height ≡ stack_height d s
  pub stands : (s : ℕ) (entry : LaidStack) → slice_get laid.stacks s ≡ Some entry → StandsFor p entry.frag (stack_fragment d s)

-- The lines of what was laid out can be made, and are those of the flows' tree.
pub record IsPrinted (d : FlowsData) (laid : Laid) (p : Nodes) : Type 0 where
  pub given : Given d laid p
  pub fits : StackFits d laid p (length d.stacks) 0 0 0 0
  pub lines : given_lines given (length d.stacks) 0 0 0 0 ≡ tree_of d
