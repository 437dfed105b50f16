-- Heights of parts.
use Rattle.std.specs.Prelude.{ℕ, ◌+◌}
use Rattle.flow_data.specs.Data.{FlowsData}
use Rattle.flow_data.specs.Flows.{box_of}

-- the cloned edges of box b together
abbrev pub cloned_height : FlowsData → ℕ → ℕ
cloned_height d b = (box_of d b).top + (box_of d b).bottom
