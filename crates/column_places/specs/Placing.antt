-- What is placed so far in a column, and what leads on from it.
use Rattle.std.specs.Prelude.{◌≡◌, ◌+◌, List, [], ◌∷◌, ◌++◌, cond, flat_map, length, map, ℕ, false}
use Rattle.flow_list.specs.Strip.{Strip, strip_at, put, begins}
use Rattle.flow_list.specs.Placing.{RowLaid, Laid, margin, opens, closes, atom, row, greatest_margin, Placed as AnyPlaced}
use Rattle.flow_list.specs.Placing.{places_from}
use Rattle.frag_maker.specs.Building.{laid_row, placed_as}
use Rattle.frag_maker.specs.declared.placed.MadeRow.{MadeRow}
use Rattle.frag_maker.specs.declared.placed.Placed.{Placed}
use Rattle.frag_maker.specs.declared.placed.Placed.TheVariants.{Opens as OpensAt, Closes as ClosesAt, Atom as AtomAt}
use Rattle.frag_maker.specs.declared.placed.Placed.TheVariants.{Row as RowAt}
use Rattle.column_places.specs.declared.placing.Placing.{Placing}
use Rattle.column_places.specs.declared.placing.FlatRow.{FlatRow}
use Rattle.column_places.specs.declared.placing.Waiting.{Waiting}
use Rattle.column_places.specs.declared.placing.Waiting.TheVariants.{Margin, Opens, Closes, Atom, Row}

-- a row of height 0, which isn't filled
abbrev pub row_of_flat : FlatRow → MadeRow
row_of_flat r = record { row = r.row; from = r.from; height = 0; made_at = r.made_at; filled = false; made = r.made }

abbrev pub laid_as : Waiting → Laid
laid_as (Margin amount) = margin amount
laid_as (Opens number) = opens number
laid_as (Closes number) = closes number
laid_as (Atom item) = atom item 0
laid_as (Row r) = row (laid_row (row_of_flat r))

-- the margin that something in a gap is
abbrev pub margin_of : Waiting → ℕ
margin_of (Margin amount) = amount
margin_of (Opens number) = 0
margin_of (Closes number) = 0
margin_of (Atom item) = 0
margin_of (Row r) = 0

-- what stands before the gap, and what waits in it
abbrev pub standing : Placing → List AnyPlaced
standing p = map placed_as p.placed.items

abbrev pub waiting : Placing → List Laid
waiting p = map laid_as p.gap.items

-- the places of all that stands there, where this is laid after it
abbrev pub with_more : Placing → List Laid → List AnyPlaced
with_more p laid = standing p ++ places_from (length (waiting p ++ laid) + 1) p.y (waiting p ++ laid)

-- the strip that a column being placed is
abbrev pub strip_of : Placing → Strip
strip_of p = record { y = p.y; pending = p.margin; drops = p.drops }

-- the strip after a row: one that is filled stands after the pending margin and ends the gap, whatever its height
abbrev pub row_put : Strip → RowLaid → Strip
row_put s r = cond r.filled (strip_at (begins s + r.height) false) (put s r.height)

-- the margin that waits is the greatest of the gap
abbrev pub HasMargin : Placing → Type 0
HasMargin p = p.margin ≡ greatest_margin (waiting p)

-- Laying this leads from one column to the other, whose strip is this.
pub record Leads (old : Placing) (laid : List Laid) (next : Strip) (new : Placing) : Type 0 where
  pub strip : strip_of new ≡ next
  pub margin : HasMargin new
  pub places : (more : List Laid) → with_more old (laid ++ more) ≡ with_more new more

-- ---- the rows

abbrev pub row_placed : Placed → List MadeRow
row_placed (OpensAt number y starts) = []
row_placed (ClosesAt number y) = []
row_placed (AtomAt item y) = []
row_placed (RowAt r y) = r ∷ []

abbrev pub row_waiting : Waiting → List MadeRow
row_waiting (Margin amount) = []
row_waiting (Opens number) = []
row_waiting (Closes number) = []
row_waiting (Atom item) = []
row_waiting (Row r) = row_of_flat r ∷ []

abbrev pub rows_placed : List Placed → List MadeRow
rows_placed placed = flat_map row_placed placed

abbrev pub rows_waiting : List Waiting → List MadeRow
rows_waiting gap = flat_map row_waiting gap

-- the rows in a column that is being placed, in order
abbrev pub rows_of : Placing → List MadeRow
rows_of p = rows_placed p.placed.items ++ rows_waiting p.gap.items
