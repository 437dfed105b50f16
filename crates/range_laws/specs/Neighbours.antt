-- Two ranges of a row that follow each other differ (this project's own): in their reason or in their columns.
use Rattle.std.specs.Prelude.{◌≡◌, List, [], ◌∷◌}
use Rattle.flow_list.specs.Ranges.{Range}

-- these ranges have another reason or other lines
abbrev pub Differ : Range → Range → Type 0
Differ a b = a.reason ≡ b.reason → a.lines ≡ b.lines → ⊥

-- each of these ranges differs from the next
abbrev pub NeighboursDiffer : List Range → Type 0
NeighboursDiffer [] = Unit {0}
NeighboursDiffer (a ∷ []) = Unit {0}
NeighboursDiffer (a ∷ (b ∷ rest)) = Differ a b × NeighboursDiffer (b ∷ rest)
