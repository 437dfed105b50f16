-- One column of a flow at a given height: where it ends, and what of that would change at a greater height.
use Rattle.std.specs.Prelude.{ℕ, zero, suc, ◌+◌, ◌-◌, ◌==◌, Bool, true, false, cond, not, ◌||◌, ◌&&◌, List, [], ◌∷◌, ◌++◌, map}
use Rattle.std.specs.Prelude.{length, nat_lt, nat_le, Option, Some, None}
use Rattle.std.specs.List.{best_of, flat_map}
use Rattle.mc_base.specs.declared.level.Level.{Level}
use Rattle.mc_base.specs.declared.level.Level.TheVariants.{Forced, L0, L1, L2}
use Rattle.flow_list.specs.Data.{Edge, Flow, FlowsData, Item, Atom, Row}
use Rattle.flow_list.specs.Strip.{Strip, strip_at, put, lay_all, begins}
use Rattle.flow_data.specs.Flows.{item_of, seam_of, open_at}
use Rattle.flow_list.specs.Tokens.{Token, row_start, item_number, within}
use Rattle.flow_list.specs.ClonedEdges.{open_across, tops, bottoms, any_avoids}

-- How bad a break is: at a lesser number it breaks fewer rules (CSS Fragmentation 3, sections 4.4 and 4.5). A forced
-- break breaks none.
abbrev pub rank : Level → ℕ
rank Forced = 0
rank L0 = 0
rank L1 = 1
rank L2 = 2

abbrev pub is_forced : Level → Bool
is_forced Forced = true
is_forced L0 = false
is_forced L1 = false
is_forced L2 = false

-- A line that tells how a column came to be: how deep it stands in other columns, the place where it ends unless it
-- overflows, and its stop.
pub record ColumnLine : Type 0 where
  pub depth : ℕ
  pub end : Option Token
  pub stop : Option ℕ

-- A column: the place where it ends, the level of that break, whether it overflows and how far its content reaches. The
-- lines tell how it came to be, the bounds are greater heights at which that may change, and the uses are the rows and
-- places within them whose sizes it rests on.
pub record Column : Type 0 where
  pub end : Token
  pub level : ℕ
  pub overflow : Bool
  pub extent : ℕ
  pub lines : List ColumnLine
  pub bounds : List ℕ
  pub uses : List (ℕ × Token)

-- What a row makes in the height that is left for it in a column: the place that it leaves, whether that is its end, the
-- greatest level of its columns, whether one overflows, and what of them would change at a greater height.
pub record Filled : Type 0 where
  pub end : Token
  pub at_end : Bool
  pub level : ℕ
  pub overflow : Bool
  pub lines : List ColumnLine
  pub bounds : List ℕ
  pub uses : List (ℕ × Token)

-- What a flow is told of the rows that stand in it, from a place in them on: the least height that fits, what they make
-- at a lesser height, and how many items are left in them.
pub record Inner : Type 0 where
  pub size : ℕ → Token → ℕ
  pub fill : ℕ → Token → ℕ → Filled
  pub left : ℕ → Token → ℕ

-- the height of an atom, or the size of a row from a place in it on
abbrev pub height_of : Inner → Item → Token → ℕ
height_of inner (Atom height kind) q = height
height_of inner (Row r) q = inner.size r q

-- the row that an item is, with the place from which it is taken
abbrev pub row_from : Item → Token → Option (ℕ × Token)
row_from (Atom height kind) q = None
row_from (Row r) q = Some (r, q)

-- An item as it stands in a column, by what depends on no height: its number, the level of the seam before it, where it
-- begins (y), its height, and what the column needs to hold it with the tail of the seam after it and the cloned edges
-- there. Then its row with the place from which that is taken, the tail and the level of the seam after it (0 where that
-- is forced or the flow's end), and the cloned edges below the boxes open at the item (bottoms) and across that seam.
pub record Step : Type 0 where
  pub item : ℕ
  pub level : Level
  pub y : ℕ
  pub height : ℕ
  pub need : ℕ
  pub row : Option (ℕ × Token)
  pub tail : List Edge
  pub next : ℕ
  pub bottoms : ℕ
  pub bottoms_after : ℕ

-- the strip after item k, which is taken from q, and the tail of the seam after it
abbrev pub strip_behind : Inner → Flow → Strip → ℕ → Token → Strip
strip_behind inner f s k q = lay_all (put s (height_of inner (item_of f k) q)) (seam_of f (k + 1)).tail

-- item k, taken from q, in the strip before it
abbrev pub step_at : Inner → FlowsData → Flow → Strip → ℕ → Token → Step
step_at inner d f s k q = record {
  item = k;
  level = (seam_of f k).level;
  y = begins s;
  height = height_of inner (item_of f k) q;
  need = (strip_behind inner f s k q).y + bottoms d (open_across f (k + 1));
  row = row_from (item_of f k) q;
  tail = (seam_of f (k + 1)).tail;
  next = cond (k + 1 == length f.items) 0 (rank (seam_of f (k + 1)).level);
  bottoms = bottoms d (open_at f k);
  bottoms_after = bottoms d (open_across f (k + 1));
}

-- the items from item k on, of which n are left, up to the next forced seam or the end
unfoldable pub steps : Inner → FlowsData → Flow → Strip → ℕ → Token → ℕ → List Step
steps inner d f s k q zero = []
steps inner d f s k q (suc n) =
    step_at inner d f s k q ∷ elim (is_forced (seam_of f (k + 1)).level) [
      | true ↦ []
      | false ↦ steps inner d f (lay_all (strip_behind inner f s k q) (seam_of f (k + 1)).head) (k + 1) row_start n
    ]

-- The strip before the first item of a column after an unforced break: the cloned edges and the head of the seam, with
-- the margins next to the break dropped (CSS Fragmentation 3, section 5.2).
abbrev pub unforced_start : FlowsData → Flow → ℕ → Strip
unforced_start d f i = lay_all (strip_at (tops d (open_across f i)) true) (seam_of f i).head

-- The strip before the first item of the column that begins at a place: at the flow's start and after a forced break its
-- margins stay, and within a row no head is repeated.
abbrev pub start_strip : FlowsData → Flow → Token → Strip
start_strip d f [] = strip_at 0 false
start_strip d f (i ∷ []) = lay_all (strip_at (tops d (open_across f i)) (not (i == 0 || is_forced (seam_of f i).level)))
    (seam_of f i).head
start_strip d f (i ∷ (j ∷ rest)) = strip_at (tops d (open_at f i)) true

-- the items of the column that begins at a place, up to the next forced seam or the end
abbrev pub steps_from : Inner → FlowsData → Flow → Token → List Step
steps_from inner d f t = steps inner d f (start_strip d f t) (item_number t) (within t) (length f.items - item_number t)

-- what item k needs alone in a column after an unforced break
abbrev pub loose_need : Inner → FlowsData → Flow → ℕ → ℕ
loose_need inner d f k = (step_at inner d f (unforced_start d f k) k row_start).need

-- The items that a column of this height has room for, and its stop: the first item that needs more.
pub record Cut : Type 0 where
  pub before : List Step
  pub stop : Option Step

abbrev pub longer : Step → Cut → Cut
longer s c = record { before = s ∷ c.before; stop = c.stop }

abbrev pub cut : ℕ → List Step → Cut
cut h [] = record { before = []; stop = None }
cut h (s ∷ ss) = cond (nat_lt h s.need) (record { before = []; stop = Some s }) (longer s (cut h ss))

-- a place where a column may end, with what the column then is
pub record Place : Type 0 where
  pub level : ℕ
  pub end : Token
  pub extent : ℕ
  pub overflow : Bool

-- the place where a column ends, with what the column is
abbrev pub place_in : Column → Place
place_in c = record { level = c.level; end = c.end; extent = c.extent; overflow = c.overflow }

-- of a best place so far and a later place the better one
abbrev pub better_place : Option Place → Place → Place
better_place None later = later
better_place (Some best) later = cond (nat_le later.level best.level) later best

-- the seams before these items, where the item before the first one needs this much
abbrev pub seams_before : ℕ → List Step → List Place
seams_before need [] = []
seams_before need (s ∷ ss) = record { level = rank s.level; end = s.item ∷ []; extent = need; overflow = false } ∷ seams_before
    s.need ss

-- the seams between these items
abbrev pub seams_between : List Step → List Place
seams_between [] = []
seams_between (s ∷ ss) = seams_before s.need ss

-- the height that is left for an item above the cloned edges of the boxes open at it, at a column's height h; 0 where it
-- begins too low
abbrev pub room : Step → ℕ → ℕ
room s h = h - s.y - s.bottoms

-- whether an item begins within the height h, and needs more than the room that is left
abbrev pub is_cut : Step → ℕ → Bool
is_cut s h = nat_le (s.y + s.bottoms) h && nat_lt (room s h) s.height

-- how far a seam's tail reaches that is laid from y on, with nothing pending
abbrev pub tail_from : ℕ → List Edge → ℕ
tail_from y tail = (lay_all (strip_at y false) tail).y

-- Where a column ends that fills a row, at a room: within the row, or after it where the row's end was reached. A break
-- within a row is as bad as the row's worst one, or of level 2 where an open box avoids it. After the row the tail of the
-- next seam has to fit where the cloned edges of the open boxes would stand.
abbrev pub inside_place : Bool → Step → ℕ → Filled → Place
inside_place avoids s a filled = record {
  level = cond avoids 2 filled.level;
  end = cond filled.at_end ((s.item + 1) ∷ []) (s.item ∷ filled.end);
  extent = cond filled.at_end (tail_from (s.y + a) s.tail + s.bottoms_after) (s.y + a + s.bottoms);
  overflow = filled.at_end && nat_lt s.bottoms (tail_from 0 s.tail + s.bottoms_after);
}

-- what the row of an item makes in a room
abbrev pub fill_in_room : Inner → Option (ℕ × Token) → ℕ → Option Filled
fill_in_room inner None a = None
fill_in_room inner (Some row) a = Some (inner.fill row.0 row.1 a)

-- the place inside the stop, where a column may end in it: a row that is cut, and whose columns don't overflow
abbrev pub inside : Bool → Step → ℕ → Option Filled → List Place
inside avoids s h None = []
inside avoids s h (Some filled) = cond (is_cut s h && not filled.overflow) (inside_place avoids s (room s h) filled ∷ []) []

-- the place after an item that is placed whole though it overflows
abbrev pub whole_place : Step → Place
whole_place s = record { level = s.next; end = (s.item + 1) ∷ []; extent = s.need; overflow = true }

-- Where the column ends that has no good place: its first item stands alone, a row that is too high as far as it goes.
abbrev pub alone_place : Bool → Step → ℕ → Option Filled → Place
alone_place avoids s h None = whole_place s
alone_place avoids s h (Some filled) =
    let p = inside_place avoids s (room s h) filled in
    cond (nat_lt (room s h) s.height) (record { level = p.level; end = p.end; extent = p.extent; overflow = true })
    (whole_place s)

-- of a first place and these later ones the one of least level, and of those the latest
abbrev pub best : Place → List Place → Place
best p ps = best_of (λ x b. nat_le x.level b.level) p ps

-- the best of these places, or the other one where there is none
abbrev pub choose : List Place → Place → Place
choose [] other = other
choose (p ∷ ps) other = best p ps

abbrev pub deeper : ColumnLine → ColumnLine
deeper line = record { depth = line.depth + 1; end = line.end; stop = line.stop }

-- the lines of a row that is cut, below those of the column
abbrev pub inner_lines : Bool → Option Filled → List ColumnLine
inner_lines cuts None = []
inner_lines cuts (Some filled) = cond cuts (map deeper filled.lines) []

-- The greater heights at which a column with this stop may change: where the stop would fit, where a row would begin
-- within the height, where it would fit in its room, and where one of its own columns may change.
abbrev pub bounds_at : Step → ℕ → Option Filled → List ℕ
bounds_at s h None = s.need ∷ []
bounds_at s h (Some filled) =
    let y = s.y + s.bottoms in
    s.need ∷ cond (nat_lt 0 s.height && nat_lt h y) (y ∷ []) []
    ++ cond (is_cut s h) ((y + s.height) ∷ map (λ b. y + b) filled.bounds) []

-- the rows among these items, with the places from which they are taken
abbrev pub row_list : Option (ℕ × Token) → List (ℕ × Token)
row_list None = []
row_list (Some row) = row ∷ []

abbrev pub rows_among : List Step → List (ℕ × Token)
rows_among ss = flat_map (λ (s : Step). row_list s.row) ss

-- the uses of a row's columns, where the row was filled
abbrev pub inner_uses : Bool → Option Filled → List (ℕ × Token)
inner_uses fills None = []
inner_uses fills (Some filled) = cond fills filled.uses []

-- Whether the stop is filled: it is cut, or it is the column's first item and there is too little room for it.
abbrev pub fills : List Step → Step → ℕ → Bool
fills [] s h = nat_lt (room s h) s.height
fills (first ∷ before) s h = is_cut s h

abbrev pub column_to : Place → Option ℕ → List ColumnLine → List ℕ → List (ℕ × Token) → Column
column_to p stop lines bounds uses = record {
  end = p.end;
  level = p.level;
  overflow = p.overflow;
  extent = p.extent;
  lines = record { depth = 0; end = cond p.overflow None (Some p.end); stop = stop } ∷ lines;
  bounds = bounds;
  uses = uses;
}

-- the column of height h over these items with this stop, whose row makes filled in the room that is left: it ends at the
-- best of the seams up to the stop and the place inside it (CSS Fragmentation 3, section 4.5)
abbrev pub stopped : Bool → ℕ → List Step → Step → Option Filled → Column
stopped avoids h before s filled =
    column_to (choose (seams_between (before ++ s ∷ []) ++ inside avoids s h filled) (alone_place avoids s h filled))
    (Some s.item)
    (inner_lines (is_cut s h) filled) (bounds_at s h filled)
    (rows_among (before ++ s ∷ []) ++ inner_uses (fills before s h) filled)

-- the place after the last of these items, a forced seam or the end
abbrev pub last_place : Place → List Step → Place
last_place p [] = p
last_place p (s ∷ ss) = last_place (record { level = 0; end = (s.item + 1) ∷ []; extent = s.need; overflow = false }) ss

abbrev pub no_place : Place
no_place = record { level = 0; end = []; extent = 0; overflow = false }

-- the column over these items, all of which it has room for
abbrev pub unstopped : List Step → Column
unstopped ss = column_to (last_place no_place ss) None [] [] (rows_among ss)

-- the column of height h over these items and up to this stop
abbrev pub column_up_to : Inner → (ℕ → Bool) → ℕ → List Step → Option Step → Column
column_up_to inner avoids h before None = unstopped before
column_up_to inner avoids h before (Some s) = stopped (avoids s.item) h before s (fill_in_room inner s.row (room s h))

-- the column of height h over these items
abbrev pub column_over : Inner → (ℕ → Bool) → ℕ → List Step → Column
column_over inner avoids h ss = column_up_to inner avoids h (cut h ss).before (cut h ss).stop

-- whether a box that is open at item k avoids a break inside
abbrev pub avoids_at : FlowsData → Flow → ℕ → Bool
avoids_at d f k = any_avoids d (open_at f k)

-- the column of height h that begins at a place of a flow before its end
unfoldable pub column : Inner → FlowsData → Flow → Token → ℕ → Column
column inner d f t h = column_over inner (avoids_at d f) h (steps_from inner d f t)

-- the column without end that begins there
unfoldable pub endless_column : Inner → FlowsData → Flow → Token → Column
endless_column inner d f t = unstopped (steps_from inner d f t)
