-- Places in a flow, where a column begins or ends (this project's own; CSS calls a place to go on from a break token).
use Rattle.std.specs.Prelude.{◌≡◌, ℕ, ◌<◌, Bool, List, [], ◌∷◌, length, nat_le, ◌⊎◌}
use Rattle.flow_list.specs.Data.{Flow, FlowsData, Row}
use Rattle.flow_data.specs.Flows.{flow_in, item_of}
pub use Rattle.mc_base.specs.Places.{item_number}

-- The number of an item, and where that item is a row that is entered, the place within it. In a flow of n items the
-- place n is the end.
abbrev pub Token : Type 0
Token = List ℕ

-- the place of a flow's first item
abbrev pub row_start : Token
row_start = 0 ∷ []

-- the place within the item, which is the item's start where it isn't entered
abbrev pub within : Token → Token
within [] = row_start
within (i ∷ []) = row_start
within (i ∷ (j ∷ rest)) = j ∷ rest

-- whether a place is the flow's end
abbrev pub is_end : Flow → Token → Bool
is_end f t = nat_le (length f.items) (item_number t)

-- a place in a flow before its end: an item, or a place before the end of a row that an item is
abbrev pub IsPlaceBefore : FlowsData → Flow → Token → Type 0
IsPlaceBefore d f [] = ⊥
IsPlaceBefore d f (i ∷ []) = i < length f.items
IsPlaceBefore d f (i ∷ (j ∷ rest)) = (i < length f.items) × (r : ℕ) × (item_of f i ≡ Row r)
    × IsPlaceBefore d (flow_in d r) (j ∷ rest)

-- a place in a flow: its end, or a place before that
abbrev pub IsPlace : FlowsData → Flow → Token → Type 0
IsPlace d f t = (t ≡ length f.items ∷ []) ⊎ IsPlaceBefore d f t
