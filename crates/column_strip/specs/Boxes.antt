-- What the boxes that are open at a place have again at a break there (`box-decoration-break: clone`, CSS Fragmentation 3,
-- section 5.4), and how many of them avoid a break inside (CSS Fragmentation 3, section 3.2).
use Rattle.std.specs.Prelude.{◌≡◌, ℕ, ◌+◌, ◌^◌, ◌<◌, ◌≤◌, cond, List, sum_by}
use Rattle.flow_data.specs.declared.data.Flow.{Flow}
use Rattle.flow_data.specs.declared.data.FlowsData.{FlowsData}
use Rattle.flow_data.specs.Flows.{box_of, open_at}
use Rattle.flow_list.specs.ClonedEdges.{open_across, tops, bottoms}
use Rattle.column_strip.specs.declared.open_boxes.OpenBoxes.{OpenBoxes}

-- how many of these boxes avoid a break inside
abbrev pub avoiding : FlowsData → List ℕ → ℕ
avoiding d boxes = sum_by (λ b. cond (box_of d b).avoid 1 0) boxes

-- what these boxes have, all together
pub record IsOf (d : FlowsData) (boxes : List ℕ) (o : OpenBoxes) : Type 0 where
  pub above : o.tops ≡ tops d boxes
  pub below : o.bottoms ≡ bottoms d boxes
  pub avoid : o.avoiding ≡ avoiding d boxes

-- the boxes that are open across seam k, and those that are open at item k
abbrev pub IsAcross : FlowsData → Flow → ℕ → OpenBoxes → Type 0
IsAcross d f k o = IsOf d (open_across f k) o

abbrev pub IsOpen : FlowsData → Flow → ℕ → OpenBoxes → Type 0
IsOpen d f k o = IsOf d (open_at f k) o

-- boxes, and these further ones
pub record IsWith (d : FlowsData) (o : OpenBoxes) (boxes : List ℕ) (more : OpenBoxes) : Type 0 where
  pub above : more.tops ≡ o.tops + tops d boxes
  pub below : more.bottoms ≡ o.bottoms + bottoms d boxes
  pub avoid : more.avoiding ≡ o.avoiding + avoiding d boxes

-- there is room for these further boxes in the counts
pub record HasRoom (d : FlowsData) (o : OpenBoxes) (boxes : List ℕ) : Type 0 where
  pub above : o.tops + tops d boxes < 2 ^ 63
  pub below : o.bottoms + bottoms d boxes < 2 ^ 63
  pub avoid : o.avoiding + avoiding d boxes < 2 ^ 63

-- these are no more than what there is
pub record HasAmong (d : FlowsData) (o : OpenBoxes) (boxes : List ℕ) : Type 0 where
  pub above : tops d boxes ≤ o.tops
  pub below : bottoms d boxes ≤ o.bottoms
  pub avoid : avoiding d boxes ≤ o.avoiding
