-- Where a column ends, told over all breaks where it may: its stop is the first item that needs more than the height, and no
-- break is better than the one chosen (CSS Fragmentation 3, sections 4.4 and 4.5).
use Rattle.std.specs.Prelude.{◌≡◌, ℕ, suc, ◌+◌, ◌<◌, ◌≤◌, Bool, true, false, List, [], ◌∷◌, length, slice_get, Some, None, ◌⊎◌}
use Rattle.flow_list.specs.Data.{Flow, FlowsData}
use Rattle.flow_data.specs.Flows.{seam_of}
use Rattle.flow_list.specs.Tokens.{Token, item_number}
use Rattle.flow_list.specs.Column.{avoids_at, column, ColumnLine, Inner, inside_place, is_forced, Place, place_in, rank, room}
use Rattle.flow_list.specs.Column.{Step, steps_from, whole_place}

-- ---- the items of a column, and its stop

-- The items of the column that begins at a place: one after another from that place on, up to the next forced break or the flow's
-- end.
pub record AreColumnItems (f : Flow) (t : Token) (items : List Step) : Type 0 where
  pub numbered : (k : ℕ) (s : Step) → slice_get items k ≡ Some s → s.item ≡ item_number t + k
  pub level : (k : ℕ) (s : Step) → slice_get items k ≡ Some s → s.level ≡ (seam_of f s.item).level
  pub unforced : (k : ℕ) (s : Step) → slice_get items (suc k) ≡ Some s → is_forced s.level ≡ false
  pub to_forced : item_number t ≤ length f.items →
      (item_number t + length items ≡ length f.items) ⊎ (is_forced (seam_of f (item_number t + length items)).level ≡ true)

-- all of these items have room in the height
abbrev pub AllFit : ℕ → List Step → Type 0
AllFit h items = (k : ℕ) (s : Step) → slice_get items k ≡ Some s → s.need ≤ h

-- item j of these is the stop: the first that needs more than the height
pub record IsStop (h : ℕ) (items : List Step) (j : ℕ) (stop : Step) : Type 0 where
  pub among : slice_get items j ≡ Some stop
  pub above : h < stop.need
  pub first : (k : ℕ) (s : Step) → k < j → slice_get items k ≡ Some s → s.need ≤ h

-- ---- where a column may end

-- the place at the seam between two items that follow each other, of that seam's level
abbrev pub seam_place : (before behind : Step) → Place
seam_place before behind = record { level = rank behind.level; end = behind.item ∷ []; extent = before.need; overflow = false }

-- this place is the seam before item k of these, which isn't the first and stands no later than the stop
pub record IsSeam (items : List Step) (j k : ℕ) (p : Place) : Type 0 where
  pub number : ℕ
  pub follows : k ≡ suc number
  pub to_stop : k ≤ j
  pub before : Step
  pub behind : Step
  pub before_is : slice_get items number ≡ Some before
  pub behind_is : slice_get items k ≡ Some behind
  pub is : p ≡ seam_place before behind

-- this place is inside the stop: a row that begins within the height and needs more than the room that is left, and whose fill in
-- that room overflows nowhere
pub record IsInside (inner : Inner) (avoids : Bool) (h : ℕ) (stop : Step) (p : Place) : Type 0 where
  pub row : ℕ × Token
  pub row_is : stop.row ≡ Some row
  pub begins : stop.y + stop.bottoms ≤ h
  pub low : room stop h < stop.height
  pub fits : (inner.fill row.0 row.1 (room stop h)).overflow ≡ false
  pub is : p ≡ inside_place avoids stop (room stop h) (inner.fill row.0 row.1 (room stop h))

-- a column with this stop may end there: at a seam before item k, or, later than all those, inside the stop
abbrev pub IsCandidate : Inner → (avoids : Bool) → (h : ℕ) → List Step → (j : ℕ) → (stop : Step) → (k : ℕ) → Place → Type 0
IsCandidate inner avoids h items j stop k p = IsSeam items j k p ⊎ ((k ≡ suc j) × IsInside inner avoids h stop p)

-- of the places where a column may end, numbered by how late they are, this is the last of those of the least level
pub record IsBest (Candidate : ℕ → Place → Type 0) (k : ℕ) (p : Place) : Type 0 where
  pub candidate : Candidate k p
  pub least : (n : ℕ) (q : Place) → Candidate n q → p.level ≤ q.level
  pub latest : (n : ℕ) (q : Place) → Candidate n q → k < n → p.level < q.level

-- The column ends nowhere well: there is no place where it may end, the stop is its first item, and it overflows. An atom, and a
-- row no higher than the room, is placed whole; another row is filled as far as the room goes.
pub record IsAlone (inner : Inner) (avoids : Bool) (h : ℕ) (Candidate : ℕ → Place → Type 0) (j : ℕ) (stop : Step)
    (p : Place) : Type 0 where
  pub none : (k : ℕ) (q : Place) → Candidate k q → ⊥
  pub first : j ≡ 0
  pub overflow : p.overflow ≡ true
  pub atom : stop.row ≡ None → p ≡ whole_place stop
  pub small : stop.height ≤ room stop h → p ≡ whole_place stop
  pub filled : (row : ℕ × Token) → stop.row ≡ Some row → room stop h < stop.height →
      let inside = inside_place avoids stop (room stop h) (inner.fill row.0 row.1 (room stop h)) in
      p ≡ record { level = inside.level; end = inside.end; extent = inside.extent; overflow = true }

-- The law, of the column of height h that begins at t, whatever is told of the rows that stand in it.
pub record ColumnIsChosen (inner : Inner) (d : FlowsData) (f : Flow) (t : Token) (h : ℕ) : Type 0 where
  pub items : AreColumnItems f t (steps_from inner d f t)
  -- all items fit, or one is the stop
  pub stop : AllFit h (steps_from inner d f t) ⊎ ((j : ℕ) × (s : Step) × IsStop h (steps_from inner d f t) j s)
  -- where all fit, the column has no stop, and ends after the last of them: at a break of level 0, with nothing that overflows
  pub whole : (n : ℕ) (last : Step) → AllFit h (steps_from inner d f t) → suc n ≡ length (steps_from inner d f t) →
      slice_get (steps_from inner d f t) n ≡ Some last →
      (place_in (column inner d f t h) ≡ record { level = 0; end = (last.item + 1) ∷ []; extent = last.need; overflow = false })
      × ((column inner d f t h).lines ≡ record { depth = 0; end = Some ((last.item + 1) ∷ []); stop = None } ∷ [])
  -- where one is the stop, the column's first line names it
  pub named : (j : ℕ) (s : Step) → IsStop h (steps_from inner d f t) j s →
      (line : ColumnLine) × (more : List ColumnLine) × ((column inner d f t h).lines ≡ line ∷ more) × (line.stop ≡ Some s.item)
  -- and the column ends at the best place where it may end, or it overflows where there is none
  pub best : (j : ℕ) (s : Step) → IsStop h (steps_from inner d f t) j s →
      ((k : ℕ) × IsBest (IsCandidate inner (avoids_at d f s.item) h (steps_from inner d f t) j s) k
      (place_in (column inner d f t h)))
      ⊎ IsAlone inner (avoids_at d f s.item) h (IsCandidate inner (avoids_at d f s.item) h (steps_from inner d f t) j s) j s
      (place_in (column inner d f t h))
