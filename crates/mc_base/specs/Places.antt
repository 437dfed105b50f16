-- Places in a flow, as lists of one to three numbers (this project's own; CSS calls a place to go on from a break token).
use Rattle.std.specs.Prelude.{ℕ, List, [], ◌∷◌, Option, Some, None}
use Rattle.std.specs.Ordering.{nat_cmp}
use Rattle.std.specs.Cmp.Lexicographic.{slice_cmp}
use Rattle.std.specs.declared.cmp.Ordering.{Ordering}

-- the item of a place
abbrev pub item_number : List ℕ → ℕ
item_number [] = 0
item_number (i ∷ within) = i

-- the place within the item, where that is a row that is entered
abbrev pub place_within : List ℕ → Option (List ℕ)
place_within [] = None
place_within (i ∷ []) = None
place_within (i ∷ (j ∷ rest)) = Some (j ∷ rest)

-- which place is the earlier one: number by number, and an item before what stands within it
abbrev pub place_order : List ℕ → List ℕ → Ordering
place_order p q = slice_cmp nat_cmp p q
