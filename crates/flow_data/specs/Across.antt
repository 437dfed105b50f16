-- What is looked at while places are measured from the left of stack 0: flows in flows.
use Rattle.std.specs.Prelude.{ℕ, ◌+◌, ◌^◌, ◌<◌}
use Rattle.flow_data.specs.declared.across.Place.{Place}
use Rattle.flow_data.specs.Data.{FlowsData, Item}
use Rattle.flow_data.specs.Flows.{box_of}
use Rattle.flow_data.specs.Soundness.{Held, item_x}

-- a box and an item of a flow whose left edge is at left are below 2^60 from the left of stack 0
abbrev pub IsBoxInReach : FlowsData → ℕ → ℕ → Type 0
IsBoxInReach d left b = left + (box_of d b).x < 2 ^ 60

abbrev pub IsItemInReach : FlowsData → ℕ → Item → Type 0
IsItemInReach d left item = left + item_x d item < 2 ^ 60

-- where a flow stands that a flow with its left edge at left holds, and that is looked at n flows deep
abbrev pub place_of : ℕ → ℕ → Held → Place
place_of left n h = record { flow = h.flow; left = left + h.x; depth = n }
