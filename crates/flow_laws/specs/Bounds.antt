-- Needs never fall from item to item, and all that is computed on a sound flow stays small (this project's own: the data is below
-- 2^60 in all).
use Rattle.std.specs.Prelude.{ℕ, ◌+◌, ◌<◌, ◌≤◌, ◌^◌, List, [], ◌∷◌, length, Option}
use Rattle.flow_list.specs.Data.{FlowsData}
use Rattle.flow_data.specs.Flows.{flow_in}
use Rattle.flow_list.specs.Tokens.{Token, IsPlaceBefore}
use Rattle.flow_list.specs.Column.{Step, steps_from, loose_need}
use Rattle.flow_list.specs.Rows.{all_rows}
use Rattle.flow_list.specs.RowHeights.{size_of, column_within}

-- each of these items needs as much as the one before it at least, and the first as much as this
abbrev pub NeedsRise : ℕ → List Step → Type 0
NeedsRise need [] = Unit {0}
NeedsRise need (s ∷ ss) = (need ≤ s.need) × NeedsRise s.need ss

-- each of these items needs less than 2^60, and begins below it
abbrev pub NeedsAreSmall : List Step → Type 0
NeedsAreSmall [] = Unit {0}
NeedsAreSmall (s ∷ ss) = (s.need < 2 ^ 60) × (s.y + s.bottoms < 2 ^ 60) × NeedsAreSmall ss

-- The law, of row r of sound flows.
pub record NeedsAndBounds (d : FlowsData) (r : ℕ) : Type 0 where
  -- what the items of a column need never falls from one to the next
  pub needs_never_fall : (t : Token) → IsPlaceBefore d (flow_in d r) t → NeedsRise 0 (steps_from (all_rows d) d (flow_in d r) t)
  pub needs_are_small : (t : Token) → IsPlaceBefore d (flow_in d r) t → NeedsAreSmall (steps_from (all_rows d) d (flow_in d r) t)
  -- nor is what an item needs after an unforced break 2^60 or more
  pub loose_needs_are_small : (k : ℕ) → k < length (flow_in d r).items → loose_need (all_rows d) d (flow_in d r) k < 2 ^ 60
  pub sizes_are_small : (q : Token) → size_of d r q < 2 ^ 60
  -- how far a column reaches, at a height or without end
  pub extents_are_small : (t : Token) (h : Option ℕ) → IsPlaceBefore d (flow_in d r) t
      → (column_within d (flow_in d r) h t).extent < 2 ^ 60
