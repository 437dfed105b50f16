-- The border and padding that open boxes have again at a break (`box-decoration-break: clone`, CSS Fragmentation 3,
-- section 5.4).
use Rattle.std.specs.Prelude.{ℕ, zero, suc, not, List, filter, sum_by}
use Rattle.flow_list.specs.Data.{Flow, FlowsData}
use Rattle.flow_data.specs.Flows.{box_of, seam_of, ended, open_at, is_among}
use Rattle.std.specs.List.{flat_map, list_any}
use Rattle.std.specs.Prelude.{Bool}

-- The boxes that are open across seam k: before the first item those open at the flow's start, else those that are open
-- at the item before the seam and don't end in its tail.
abbrev pub open_across : Flow → ℕ → List ℕ
open_across f zero = f.opened
open_across f (suc k) = filter (λ b. not (is_among (flat_map ended (seam_of f (suc k)).tail) b)) (open_at f k)

-- what these boxes have again above a break's second side, and what they have below its first side
abbrev pub tops : FlowsData → List ℕ → ℕ
tops d boxes = sum_by (λ b. (box_of d b).top) boxes

abbrev pub bottoms : FlowsData → List ℕ → ℕ
bottoms d boxes = sum_by (λ b. (box_of d b).bottom) boxes

-- whether one of these boxes avoids a break inside (CSS Fragmentation 3, section 3.2)
abbrev pub any_avoids : FlowsData → List ℕ → Bool
any_avoids d boxes = list_any (λ b. (box_of d b).avoid) boxes
