-- Bands of leaves, and what they are good for.
use Rattle.std.specs.Prelude.{◌≡◌, ℕ, ◌+◌, ◌-◌, ◌≤◌, ◌^◌, max, min, cond, List, [], ◌∷◌, Option, Some, None, All}
use Rattle.std.specs.List.{flat_map}
use Rattle.std.specs.List.Sorted.{IsNonDecreasingBy}
use Rattle.hit_index.specs.declared.mark.Mark.{Mark}
use Rattle.hit_index.specs.declared.mark.Leaf.{Leaf}
use Rattle.hit_index.specs.declared.band.Band.{Band}
use Rattle.hit_index.specs.Scan.{holds, leaves_of}

-- the later of two leaves
abbrev pub later : Option ℕ → Option ℕ → Option ℕ
later None b = b
later (Some a) None = Some a
later (Some a) (Some b) = Some (max a b)

-- the number of a leaf that holds a point
abbrev pub hit_by : (px py : ℕ) → Leaf → Option ℕ
hit_by px py l = cond (holds l.rect px py) (Some l.number) None

-- the latest of these leaves that holds a point
abbrev pub best : (px py : ℕ) → List Leaf → Option ℕ
best px py [] = None
best px py (l ∷ ls) = later (hit_by px py l) (best px py ls)

-- A band has its leaves in order of their left edges, and knows where they stand; it ends at the greatest number of 64 bits where
-- a leaf reaches further.
pub record IsBand (b : Band) : Type 0 where
  pub order : IsNonDecreasingBy (λ (l : Leaf). l.rect.x) b.leaves.items
  pub top : All (λ (l : Leaf). b.top ≤ l.rect.y) b.leaves.items
  pub bottom : All (λ (l : Leaf). min (l.rect.y + l.rect.h) (2 ^ 64 - 1) ≤ b.bottom) b.leaves.items

abbrev pub leaves_in : List Band → List Leaf
leaves_in bands = flat_map (λ (b : Band). b.leaves.items) bands

-- These are bands, whose leaves answer for each point what the leaves among the lines do.
pub record IsIndexed (marks : List Mark) (bands : List Band) : Type 0 where
  pub each : All IsBand bands
  pub same : (px py : ℕ) → best px py (leaves_in bands) ≡ best px py (leaves_of marks)
