-- The rectangles of a whole tree stay below 2^63, so that places and sizes fit 64 bits with a sign, and each stack reaches less
-- than 2^60 (this project's own: in sound data each flow stands in one place, and all heights together are below 2^60).
use Rattle.std.specs.Prelude.{ℕ, ◌+◌, ◌<◌, ◌^◌, length, All}
use Rattle.flow_list.specs.Data.{FlowsData}
use Rattle.flow_data.specs.Flows.{stack_of, flow_of}
use Rattle.flow_list.specs.Stacks.{stack_extent}
use Rattle.flow_list.specs.Tree.{TreeLine, tree_of}

-- the right and the bottom of a line's rectangle are below 2^63
abbrev pub EndsBelow : TreeLine → Type 0
EndsBelow line = (line.x + line.w < 2 ^ 63) × (line.y + line.h < 2 ^ 63)

-- The law, of sound flows.
pub record RectanglesAreBounded (d : FlowsData) : Type 0 where
  -- of all lines of the tree
  pub lines_end_below : All EndsBelow (tree_of d)
  -- and of each stack, whether the tree comes to it or not
  pub stacks_are_small : (s : ℕ) → s < length d.stacks
      → stack_extent d (stack_of d s).bound (flow_of d (stack_of d s).flow) < 2 ^ 60
