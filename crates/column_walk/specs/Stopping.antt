-- Where a column ends that has no room for an item.
use Rattle.std.specs.Prelude.{◌≡◌, ℕ, ◌+◌, ◌^◌, ◌<◌, Bool, true, false, cond, min, nat_le, List, Option, Some, None, All}
use Rattle.flow_data.specs.declared.data.Flow.{Flow}
use Rattle.flow_data.specs.declared.data.FlowsData.{FlowsData}
use Rattle.flow_data.specs.declared.data.Item.{Item}
use Rattle.flow_data.specs.declared.data.Item.TheVariants.{Atom, Row}
use Rattle.flow_data.specs.Flows.{flow_in, item_of, seam_of}
use Rattle.flow_list.specs.Column.{ColumnLine, Filled, Place, Step, alone_place, best, choose, inside, row_from}
use Rattle.flow_list.specs.Folds.{shortage}
use Rattle.flow_list.specs.Tokens.{IsPlaceBefore, Token}
use Rattle.inner_rows.specs.Filling.{IsLevel}
use Rattle.inner_rows.specs.declared.inner.Filled.{Filled as Made}
use Rattle.column_walk.specs.declared.endings.Here.{Here}
use Rattle.column_walk.specs.Endings.{step_of}

-- a place of an item: of a row one before its end
abbrev pub place_of_item : FlowsData → Item → Token → Type 0
place_of_item d (Atom height kind) q = Unit {0}
place_of_item d (Row r) q = IsPlaceBefore d (flow_in d r) q

abbrev pub IsPlaceOf : FlowsData → Flow → ℕ → Token → Type 0
IsPlaceOf d f k q = place_of_item d (item_of f k) q

-- the item of a column, taken from a place
abbrev pub stop_of : Flow → Here → Item → Token → Step
stop_of f here item q = step_of here (row_from item q) (seam_of f (here.item + 1)).tail

-- the best seam so far or the place inside the stop, and without both where it stands alone
abbrev pub chosen : Option Place → Bool → Step → ℕ → Option Filled → Place
chosen None avoids s h filled = choose (inside avoids s h filled) (alone_place avoids s h filled)
chosen (Some b) avoids s h filled = best b (inside avoids s h filled)

-- of the best seam and a place inside a row the better one, where that is a good one
abbrev pub chosen_of : Option Place → Bool → Place → Place
chosen_of None true p = p
chosen_of None false p = record { level = p.level; end = p.end; extent = p.extent; overflow = true }
chosen_of (Some b) true p = cond (nat_le p.level b.level) p b
chosen_of (Some b) false p = b

-- whether that is the place inside the row
abbrev pub takes_inside : Option Place → Bool → Place → Bool
takes_inside None good p = true
takes_inside (Some b) true p = nat_le p.level b.level
takes_inside (Some b) false p = false

-- what is answered of a row that is filled at a height is what the definition makes of it
pub record IsMade (made : Filled) (h : ℕ) (out : Made) : Type 0 where
  pub end : out.end ≡ made.end
  pub at_end : out.at_end ≡ made.at_end
  pub level : IsLevel out.level made.level
  pub overflow : out.overflow ≡ made.overflow
  pub short : out.short ≡ shortage h made.bounds
  pub lines : out.lines ≡ made.lines

-- the lesser of a number and what may be another
abbrev pub least_of : ℕ → Option ℕ → ℕ
least_of a None = a
least_of a (Some b) = min a b

-- lines that may stand one deeper
abbrev pub AreShallow : List ColumnLine → Type 0
AreShallow lines = All (λ (l : ColumnLine). l.depth + 1 < 2 ^ 32) lines
