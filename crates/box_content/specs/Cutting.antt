-- How the marks of a container's content are cut into rows at its spanners, one after another (CSS Multi-column 1, section 6).
use Rattle.std.specs.Prelude.{ℕ, zero, suc, ◌-◌, Bool, true, false, if◌then◌else◌, List, [], ◌∷◌, ◌++◌, length, take, fold}
use Rattle.std.specs.Prelude.{Option, Some, None, slice_get}
use Rattle.box_data.specs.declared.mark.Mark.{Mark}
use Rattle.box_data.specs.declared.mark.Mark.TheVariants as marked
use Rattle.box_data.specs.declared.placed.Placed.{Placed}
use Rattle.box_content.specs.declared.cutting.Around.{Around}
use Rattle.box_content.specs.declared.cutting.Around.TheVariants.{Nothing, Block, Spanner}
use Rattle.box_content.specs.declared.cutting.Cutting.{Cutting}

-- ---- marks

abbrev pub is_spanner : Mark → Bool
is_spanner (marked.Opens n) = false
is_spanner (marked.Closes n) = false
is_spanner (marked.Line n index) = false
is_spanner (marked.Image n) = false
is_spanner (marked.Void n x) = false
is_spanner (marked.Stack n) = false
is_spanner (marked.Row n x is_last opened) = false
is_spanner marked.Spanner = true
is_spanner marked.End = false

-- something begins that has content of its own
abbrev pub begins : Mark → Bool
begins (marked.Opens n) = false
begins (marked.Closes n) = false
begins (marked.Line n index) = false
begins (marked.Image n) = false
begins (marked.Void n x) = false
begins (marked.Stack n) = true
begins (marked.Row n x is_last opened) = true
begins marked.Spanner = true
begins marked.End = false

-- the box that ends here
abbrev pub closing : Mark → Option ℕ
closing (marked.Opens n) = None
closing (marked.Closes n) = Some n
closing (marked.Line n index) = None
closing (marked.Image n) = None
closing (marked.Void n x) = None
closing (marked.Stack n) = None
closing (marked.Row n x is_last opened) = None
closing marked.Spanner = None
closing marked.End = None

-- the box that begins here
abbrev pub opening : Mark → Option ℕ
opening (marked.Opens n) = Some n
opening (marked.Closes n) = None
opening (marked.Line n index) = None
opening (marked.Image n) = None
opening (marked.Void n x) = None
opening (marked.Stack n) = None
opening (marked.Row n x is_last opened) = None
opening marked.Spanner = None
opening marked.End = None

abbrev pub open_after : List ℕ → Mark → List ℕ
open_after boxes (marked.Opens n) = boxes ++ n ∷ []
open_after boxes (marked.Closes n) = take (length boxes - 1) boxes
open_after boxes (marked.Line n index) = boxes
open_after boxes (marked.Image n) = boxes
open_after boxes (marked.Void n x) = boxes
open_after boxes (marked.Stack n) = boxes
open_after boxes (marked.Row n x is_last opened) = boxes
open_after boxes marked.Spanner = boxes
open_after boxes marked.End = boxes

abbrev pub shallower : ℕ → Option ℕ
shallower zero = None
shallower (suc depth) = Some depth

-- how many blocks are open in a block after one more mark, unless that ends the block
abbrev pub depth_after : ℕ → Mark → Option ℕ
depth_after depth (marked.Opens n) = Some depth
depth_after depth (marked.Closes n) = Some depth
depth_after depth (marked.Line n index) = Some depth
depth_after depth (marked.Image n) = Some depth
depth_after depth (marked.Void n x) = Some depth
depth_after depth (marked.Stack n) = Some (suc depth)
depth_after depth (marked.Row n x is_last opened) = Some (suc depth)
depth_after depth marked.Spanner = Some (suc depth)
depth_after depth marked.End = shallower depth

-- ---- voids

abbrev pub left_in : Option Placed → ℕ
left_in None = 0
left_in (Some p) = p.content_x

-- where the content of a box begins, by its number
abbrev pub left_of : List Placed → ℕ → ℕ
left_of places n = left_in (slice_get places n)

abbrev pub void_of : List Placed → ℕ → Mark
void_of places n = marked.Void n (left_of places n)

abbrev pub voids_of : List Placed → Option ℕ → List Mark
voids_of places None = []
voids_of places (Some n) = void_of places n ∷ []

-- the box with whose end a part begins
abbrev pub first_closing : List Mark → Option ℕ
first_closing [] = None
first_closing (m ∷ ms) = closing m

-- the box with whose beginning a part ends
abbrev pub last_opening : List Mark → Option ℕ
last_opening [] = None
last_opening (m ∷ []) = opening m
last_opening (m ∷ (n ∷ ms)) = last_opening (n ∷ ms)

-- ---- rows

-- what stands in the row of a part, and its end
abbrev pub row_inside : List Placed → List Mark → List Mark
row_inside places part = voids_of places (first_closing part) ++
    (part ++ (voids_of places (last_opening part) ++ marked.End ∷ []))

-- the row of a part, where these boxes are open; an empty part makes none
abbrev pub row_marks : List Placed → (c x : ℕ) → (opened : List ℕ) → (is_last : Bool) → (part : List Mark) → List Mark
row_marks places c x opened is_last [] = []
row_marks places c x opened is_last (m ∷ ms) = marked.Row c x is_last opened ∷ row_inside places (m ∷ ms)

-- what is cut so far: finished rows and spanners, the part behind them, the boxes open where that begins and those open now
pub record Cut : Type 0 where
  pub place : ℕ
  pub x : ℕ
  pub rows : List Mark
  pub part : List Mark
  pub opened : List ℕ
  pub still_open : List ℕ
  pub around : Around

abbrev pub cut_of : Cutting → Cut
cut_of c = record {
  place = c.place;
  x = c.x;
  rows = c.rows.items;
  part = c.part.items;
  opened = c.opened.items;
  still_open = c.still_open.items;
  around = c.around;
}

abbrev pub depth_in : Around → ℕ
depth_in Nothing = 0
depth_in (Block depth) = depth
depth_in (Spanner depth) = depth

abbrev pub row_behind : List Placed → (is_last : Bool) → Cut → Cut
row_behind places is_last cut = record cut {
  rows = cut.rows ++ row_marks places cut.place cut.x cut.opened is_last cut.part;
  part = [];
}

-- ---- one more mark

abbrev pub in_flow : List Placed → Cut → Mark → Cut
in_flow places cut m =
    if is_spanner m then record (row_behind places false cut) { around = Spanner 0 }
    else record cut {
      part = cut.part ++ m ∷ [];
      still_open = open_after cut.still_open m;
      around = if begins m then Block 0
          else Nothing;
    }

abbrev pub block_behind : Option ℕ → Around
block_behind None = Nothing
block_behind (Some depth) = Block depth

abbrev pub in_block : ℕ → Cut → Mark → Cut
in_block depth cut m = record cut { part = cut.part ++ m ∷ []; around = block_behind (depth_after depth m) }

abbrev pub spanner_behind : Option ℕ → Cut → Mark → Cut
spanner_behind None cut m = record cut { opened = cut.still_open; around = Nothing }
spanner_behind (Some depth) cut m = record cut { rows = cut.rows ++ m ∷ []; around = Spanner depth }

abbrev pub in_spanner : ℕ → Cut → Mark → Cut
in_spanner depth cut m = spanner_behind (depth_after depth m) cut m

abbrev pub step : List Placed → Cut → Mark → Cut
step places cut m = elim (cut.around) as (λ a. Cut) [
  | Nothing ↦ in_flow places cut m
  | Block depth ↦ in_block depth cut m
  | Spanner depth ↦ in_spanner depth cut m
]

abbrev pub at_start : (c x : ℕ) → Cut
at_start c x = record { place = c; x = x; rows = []; part = []; opened = []; still_open = []; around = Nothing }

-- the rows and spanners of a container with these marks in it
abbrev pub rows_in : List Placed → (c x : ℕ) → List Mark → List Mark
rows_in places c x inside = (row_behind places true (fold (step places) (at_start c x) inside)).rows
