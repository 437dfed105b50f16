-- The size of a row is the least height that fits it (this project's own; CSS Multi-column 1, section 7.1, leaves the height
-- of balanced columns open).
use Rattle.std.specs.Prelude.{◌≡◌, ℕ, ◌<◌, ◌≤◌, Bool, true, false, [], ◌∷◌, length, ◌⊎◌}
use Rattle.flow_list.specs.Data.{Flow, FlowsData}
use Rattle.flow_data.specs.Flows.{flow_in, seam_of}
use Rattle.flow_list.specs.Tokens.{Token, item_number}
use Rattle.flow_list.specs.Column.{Column, Inner, is_forced, column}
use Rattle.flow_list.specs.Rows.{fits, reach, size_in}

-- a number passes, and none below it does
pub record IsLeast (passes : ℕ → Bool) (n : ℕ) : Type 0 where
  pub passes_at : passes n ≡ true
  pub none_below : (k : ℕ) → k < n → passes k ≡ false

-- e is the first forced seam above item i, or the flow's end
pub record IsNextForced (f : Flow) (i e : ℕ) : Type 0 where
  pub above : i < e
  pub within : e ≤ length f.items
  pub unforced : (k : ℕ) → i < k → k < e → is_forced (seam_of f k).level ≡ false
  pub forced : (e ≡ length f.items) ⊎ (is_forced (seam_of f e).level ≡ true)

-- a column ends at the next forced seam or the flow's end, and breaks no rule
pub record EndsAtForced (f : Flow) (i : ℕ) (c : Column) : Type 0 where
  pub overflow : c.overflow ≡ false
  pub level : c.level ≡ 0
  pub end : (e : ℕ) × (c.end ≡ e ∷ []) × IsNextForced f i e

-- The law, whatever is told of the rows that stand in the flow.
pub record SizesAreLeast (inner : Inner) (d : FlowsData) : Type 0 where
  -- the size of a row from a place on fits, and nothing less does
  pub size_is_least : (r : ℕ) (q : Token) → IsLeast (fits inner d r q) (size_in inner d r q)
  -- at the end it is 0
  pub size_at_end : (r : ℕ) (q : Token) → length (flow_in d r).items ≤ item_number q → size_in inner d r q ≡ 0
  -- no other height is the least that fits
  pub size_is_unique : (r : ℕ) (q : Token) (h : ℕ) → IsLeast (fits inner d r q) h → h ≡ size_in inner d r q
  -- at the heights, margins, solid amounts and cloned edges all together only forced breaks remain
  pub only_forced_remain : (f : Flow) (t : Token) (h : ℕ) → item_number t < length f.items → reach inner d f t ≤ h
      → EndsAtForced f (item_number t) (column inner d f t h)
