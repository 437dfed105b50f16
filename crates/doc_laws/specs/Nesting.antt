-- How boxes nest in the content of a flow.
use Rattle.std.specs.Prelude.{◌≡◌, List, ◌∷◌, reverse}
use Rattle.box_data.specs.declared.placed.Placed.{Placed}
use Rattle.box_data.specs.Content.{Content, done, opens, closes, leaf, holds, spanner}
use Rattle.box_data.specs.DocumentFlows.{opened_in}

-- no spanner stands in the flow, nor in a flow that it holds
abbrev pub NoSpanner : Content → Type 0
NoSpanner done = Unit {0}
NoSpanner (opens p next) = NoSpanner next
NoSpanner (closes p next) = NoSpanner next
NoSpanner (leaf l next) = NoSpanner next
NoSpanner (holds h inside next) = NoSpanner inside × NoSpanner next
NoSpanner (spanner inside next) = ⊥

-- From these open boxes, the innermost first, to those: each end closes the innermost open box. A flow that is held begins with
-- the
-- boxes that its row says, and may leave some open where a spanner ends it.
abbrev pub IsNested : (from to : List Placed) → Content → Type 0
IsNested from to done = from ≡ to
IsNested from to (opens p next) = IsNested (p ∷ from) to next
IsNested from to (closes p next) = (outer : List Placed) × (from ≡ p ∷ outer) × IsNested outer to next
IsNested from to (leaf l next) = IsNested from to next
IsNested from to (holds h inside next) = ((end : List Placed) × IsNested (reverse (opened_in h)) end inside)
    × IsNested from to next
IsNested from to (spanner inside next) = ⊥
