-- What is decided of a column: all that its definition says, and which row it fills.
use Rattle.std.specs.Prelude.{◌≡◌, ℕ, ◌-◌, ◌<◌, ◌==◌, Bool, true, false, cond, not, ◌&&◌, List, [], ◌∷◌, length, map, is_some, Option}
use Rattle.std.specs.Prelude.{Some, None}
use Rattle.flow_data.specs.declared.data.Flow.{Flow}
use Rattle.flow_data.specs.declared.data.FlowsData.{FlowsData}
use Rattle.flow_data.specs.Flows.{flow_in}
use Rattle.flow_data.specs.Soundness.{NestsAtMost}
use Rattle.flow_list.specs.Column.{ColumnLine, Filled, Inner, Place, Step, bounds_at, column, cut, deeper, inner_lines}
use Rattle.flow_list.specs.Column.{is_cut, room, steps_from}
use Rattle.flow_list.specs.Folds.{shortage}
use Rattle.flow_list.specs.Fragments.{fills_item}
use Rattle.flow_list.specs.Tokens.{IsPlaceBefore, Token}
use Rattle.inner_rows.specs.Filling.{IsLevel}
use Rattle.column_walk.specs.declared.deciding.Decision.{Decision}
use Rattle.column_walk.specs.declared.deciding.FilledRow.{FilledRow}
use Rattle.column_walk.specs.declared.endings.Spot.{Spot}
use Rattle.column_walk.specs.Stopping.{chosen}

-- Whether a column of height h with this stop, which ends at a place, fills the row that the stop is: it ends within it, or
-- after it though there is too little room for it.
abbrev pub fills_to : ℕ → Option Step → Token → Bool
fills_to h stop [] = false
fills_to h stop (e ∷ []) = fills_item (Some h) stop (e - 1) && not (e == 0)
fills_to h stop (e ∷ (j ∷ rest)) = true

-- a row that may be asked of an engine of this depth, from a place before its end on
pub record IsRowBefore (d : FlowsData) (depth : ℕ) (r : FilledRow) : Type 0 where
  pub known : r.row < length d.rows
  pub place : IsPlaceBefore d (flow_in d r.row) r.from
  pub nests : NestsAtMost d depth r.row

-- the row of an item that is filled at a height
abbrev pub filled_row : Option (ℕ × Token) → (item height : ℕ) → Option FilledRow
filled_row None item height = None
filled_row (Some r) item height = Some (record { item = item; row = r.0; from = r.1; height = height })

-- the row that such a column fills, in the room that is left
abbrev pub filled_at : ℕ → Option Step → Token → Option FilledRow
filled_at h None end = None
filled_at h (Some s) end = cond (fills_to h (Some s) end) (filled_row s.row s.item (room s h)) None

-- the column of height h from place t of a flow on
pub record IsDecision (inner : Inner) (d : FlowsData) (f : Flow) (t : Token) (h : ℕ) (out : Decision) : Type 0 where
  pub end : out.end ≡ (column inner d f t h).end
  pub level : IsLevel out.level (column inner d f t h).level
  pub overflow : out.overflow ≡ (column inner d f t h).overflow
  pub extent : out.extent ≡ (column inner d f t h).extent
  pub short : out.short ≡ shortage h (column inner d f t h).bounds
  pub lines : out.lines ≡ (column inner d f t h).lines
  pub filled : out.filled ≡ filled_at h (cut h (steps_from inner d f t)).stop (column inner d f t h).end
  pub fills : is_some out.filled ≡ fills_to h (cut h (steps_from inner d f t)).stop (column inner d f t h).end

-- the first line of a column
abbrev pub first_line : Bool → Token → Option ℕ → ColumnLine
first_line overflow end stop = record { depth = 0; end = cond overflow None (Some end); stop = stop }

-- the column that stops at an item, where this was the best seam before it, and its row makes filled in the room that is left
pub record IsStopped (b : Option Place) (avoids : Bool) (s : Step) (h : ℕ) (filled : Option Filled) (out : Decision) :
    Type 0 where
  pub end : out.end ≡ (chosen b avoids s h filled).end
  pub level : IsLevel out.level (chosen b avoids s h filled).level
  pub overflow : out.overflow ≡ (chosen b avoids s h filled).overflow
  pub extent : out.extent ≡ (chosen b avoids s h filled).extent
  pub short : out.short ≡ shortage h (bounds_at s h filled)
  pub lines : out.lines ≡ first_line out.overflow out.end (Some s.item) ∷ inner_lines (is_cut s h) filled
  pub fills : out.filled ≡ filled_at h (Some s) out.end
  pub whole : is_some out.filled ≡ fills_to h (Some s) out.end

-- the column without a stop that ends there
pub record IsUnstopped (p : Place) (out : Decision) : Type 0 where
  pub end : out.end ≡ p.end
  pub level : IsLevel out.level p.level
  pub overflow : out.overflow ≡ p.overflow
  pub extent : out.extent ≡ p.extent
  pub short : out.short ≡ None
  pub lines : out.lines ≡ first_line out.overflow out.end None ∷ []
  pub fills : out.filled ≡ None

-- a decision of these parts
pub record IsTold (spot : Spot) (stop short : Option ℕ) (inner : List ColumnLine) (filled : Option FilledRow) (out : Decision) :
    Type 0 where
  pub end : out.end ≡ spot.end
  pub level : out.level ≡ spot.level
  pub overflow : out.overflow ≡ spot.overflow
  pub extent : out.extent ≡ spot.extent
  pub short_is : out.short ≡ short
  pub lines : out.lines ≡ first_line spot.overflow spot.end stop ∷ map deeper inner
  pub filled_is : out.filled ≡ filled
