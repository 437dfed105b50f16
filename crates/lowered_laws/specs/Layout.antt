-- Layouts of flows whose flagged pieces of rows are lowered, and what is printed of them (this project's own).
use Rattle.std.specs.Prelude.{◌≡◌, ℕ, All, Some, length, slice_get}
use Rattle.flow_list.specs.Data.{FlowsData}
use Rattle.flow_list.specs.declared.laid.Laid.{Laid}
use Rattle.flow_list.specs.declared.laid.LaidStack.{LaidStack}
use Rattle.flow_list.specs.Stacks.{stack_height}
use Rattle.flow_laws.specs.Rectangles.{EndsBelow}
use Rattle.frag_pool.specs.Nodes.{Nodes}
use Rattle.frag_pool.specs.Standing.{StandsFor}
use Rattle.tree_lines.specs.Shown.{Given, given_lines, StackFits}
use Rattle.piece_data.specs.Lowering.{Flags, stack_lowered, lowered_tree}

-- What was laid out is the layout of the flows with the flagged pieces lowered: each stack has the height that the definitions
-- give it, and its id stands for the stack's tree with its pieces lowered.
pub record IsLoweredLayout (d : FlowsData) (flags : Flags) (laid : Laid) (p : Nodes) : Type 0 where
  pub count : length laid.stacks ≡ length d.stacks
  pub height : (s : ℕ) (entry : LaidStack) → slice_get laid.stacks s ≡ Some entry → entry.height ≡ stack_height d s
  pub stands : (s : ℕ) (entry : LaidStack) → slice_get laid.stacks s ≡ Some entry → StandsFor p entry.frag
      (stack_lowered d flags s)

-- The lines of what was laid out can be made, and are those of the flows' tree with the pieces lowered.
pub record IsLoweredPrinted (d : FlowsData) (flags : Flags) (laid : Laid) (p : Nodes) : Type 0 where
  pub given : Given d laid p
  pub fits : StackFits d laid p (length d.stacks) 0 0 0 0
  pub lines : given_lines given (length d.stacks) 0 0 0 0 ≡ lowered_tree d flags
  -- the right and the bottom of each rectangle are below 2^63
  pub ends : All EndsBelow (lowered_tree d flags)
