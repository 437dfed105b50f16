-- Where things stand in a column: margins that adjoin collapse to one gap, and what stands in a gap stands at its end (CSS 2.1,
-- section
-- 8.3.1, leaves the place of boxes within collapsed margins to a rule of its own; that they stand at the gap's end is this
-- project's own).
use Rattle.std.specs.Prelude.{ℕ, zero, suc, ◌+◌, ◌==◌, max, Bool, true, false, cond, not, ◌||◌, List, [], ◌∷◌, ◌++◌, Option}
use Rattle.std.specs.List.{list_any}
use Rattle.flow_list.specs.Data.{Edge, Margin, Solid, Wall, Start, End}
use Rattle.flow_list.specs.Strip.{Strip, lay}
use Rattle.flow_list.specs.Tokens.{Token}

-- A row as it stands in a column, from a place in it on: its height, the height at which its columns are made (none: they have no
-- end), and whether it is filled, so that only as many of them as it has stand there.
pub record RowLaid : Type 0 where
  pub row : ℕ
  pub from : Token
  pub height : ℕ
  pub made_at : Option ℕ
  pub filled : Bool

-- What is laid in a column, in order: margins that count, solid amounts above 0, walls, starts and ends of boxes, atoms with
-- their heights and rows. A box that continues from an earlier column starts before all else.
pub data Laid : Type 0 where
  margin : (amount : ℕ) → Laid
  solid : (amount : ℕ) → Laid
  wall : Laid
  opens : (box : ℕ) → Laid
  closes : (box : ℕ) → Laid
  atom : (item height : ℕ) → Laid
  row : RowLaid → Laid

-- an edge where a strip stands: a margin only if it isn't dropped, a solid amount only if it is above 0
abbrev pub laid_edge : Strip → Edge → List Laid
laid_edge s (Margin m) = cond s.drops [] (margin m ∷ [])
laid_edge s (Solid a) = cond (a == 0) [] (solid a ∷ [])
laid_edge s Wall = wall ∷ []
laid_edge s (Start b) = opens b ∷ []
laid_edge s (End b) = closes b ∷ []

abbrev pub laid_edges : Strip → List Edge → List Laid
laid_edges s [] = []
laid_edges s (e ∷ es) = laid_edge s e ++ laid_edges (lay s e) es

-- ---- gaps

-- whether this ends a gap: a solid amount, a wall, an item of height above 0 or a row that is filled
abbrev pub ends_gap : Laid → Bool
ends_gap (margin m) = false
ends_gap (solid a) = true
ends_gap wall = true
ends_gap (opens b) = false
ends_gap (closes b) = false
ends_gap (atom k height) = not (height == 0)
ends_gap (row r) = r.filled || not (r.height == 0)

-- the gap that these begin with, and what follows it
abbrev pub gap_of : List Laid → List Laid
gap_of [] = []
gap_of (x ∷ xs) = cond (ends_gap x) [] (x ∷ gap_of xs)

abbrev pub behind_gap : List Laid → List Laid
behind_gap [] = []
behind_gap (x ∷ xs) = cond (ends_gap x) (x ∷ xs) (behind_gap xs)

-- the greatest margin among these
abbrev pub greatest_margin : List Laid → ℕ
greatest_margin [] = 0
greatest_margin (margin m ∷ xs) = max m (greatest_margin xs)
greatest_margin (solid a ∷ xs) = greatest_margin xs
greatest_margin (wall ∷ xs) = greatest_margin xs
greatest_margin (opens b ∷ xs) = greatest_margin xs
greatest_margin (closes b ∷ xs) = greatest_margin xs
greatest_margin (atom k height ∷ xs) = greatest_margin xs
greatest_margin (row r ∷ xs) = greatest_margin xs

-- whether a box starts among these
abbrev pub opens_here : ℕ → Laid → Bool
opens_here b wall = false
opens_here b (opens c) = c == b
opens_here b _ = false

abbrev pub opens_among : ℕ → List Laid → Bool
opens_among b xs = list_any (opens_here b) xs

-- ---- places

-- What stands at a place, from the column's top: where a box starts, also one that continues, or ends, an atom, or a row.
pub data Placed : Type 0 where
  opens_at : (box y : ℕ) (starts : Bool) → Placed
  closes_at : (box y : ℕ) → Placed
  atom_at : (item y : ℕ) → Placed
  row_at : RowLaid → (y : ℕ) → Placed

-- Something in a gap from y to end, after these others of the gap: a box that ends here and started before the gap stands at the
-- gap's start, a row where the margins before it put it, and all else at the gap's end.
abbrev pub placed_in_gap : (y end : ℕ) → (before : List Laid) → Laid → List Placed
placed_in_gap y end before (margin m) = []
placed_in_gap y end before (solid a) = []
placed_in_gap y end before wall = []
placed_in_gap y end before (opens b) = opens_at b end true ∷ []
placed_in_gap y end before (closes b) = closes_at b (cond (opens_among b before) end y) ∷ []
placed_in_gap y end before (atom k height) = atom_at k end ∷ []
placed_in_gap y end before (row r) = row_at r (y + greatest_margin before) ∷ []

abbrev pub gap_places : (y end : ℕ) → (before gap : List Laid) → List Placed
gap_places y end before [] = []
gap_places y end before (x ∷ xs) = placed_in_gap y end before x ++ gap_places y end (before ++ x ∷ []) xs

-- what ends a gap stands at the gap's end, and takes its height
abbrev pub placed_item : ℕ → Laid → List Placed
placed_item y (margin m) = []
placed_item y (solid a) = []
placed_item y wall = []
placed_item y (opens b) = []
placed_item y (closes b) = []
placed_item y (atom k height) = atom_at k y ∷ []
placed_item y (row r) = row_at r y ∷ []

abbrev pub laid_height : Laid → ℕ
laid_height (margin m) = 0
laid_height (solid a) = a
laid_height wall = 0
laid_height (opens b) = 0
laid_height (closes b) = 0
laid_height (atom k height) = height
laid_height (row r) = r.height

-- a gap that ends the column has no height
abbrev pub gap_height : (gap rest : List Laid) → ℕ
gap_height gap [] = 0
gap_height gap (x ∷ xs) = greatest_margin gap

-- the places of all of these from y on: of a gap, of what ends it, and so on; n counts them
unfoldable pub places_from : (n y : ℕ) → List Laid → List Placed
places_from zero y xs = []
places_from (suc n) y xs =
    let gap = gap_of xs in
    let rest = behind_gap xs in
    let end = y + gap_height gap rest in
    gap_places y end [] gap ++ elim rest [
      | [] ↦ []
      | x ∷ later ↦ placed_item end x ++ places_from n (end + laid_height x) later
    ]
