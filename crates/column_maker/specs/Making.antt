-- Where a column ends that was decided, and the rows that stand in it.
use Rattle.std.specs.Prelude.{◌≡◌, ℕ, ◌+◌, ◌-◌, ◌==◌, Bool, true, false, cond, not, ◌&&◌, List, [], ◌∷◌, ◌++◌, All, IfSome}
use Rattle.std.specs.Prelude.{length, MatchOption, Option, Some, None}
use Rattle.mc_base.specs.PlainTree.{PlainTree, plain_trees}
use Rattle.mc_base.specs.declared.fragment.FragId.{FragId}
use Rattle.flow_list.specs.Data.{Flow, FlowsData, Item, Atom, Row}
use Rattle.flow_data.specs.Flows.{flow_in, flow_of, item_of, seam_of}
use Rattle.flow_list.specs.Column.{Step, room, row_from, row_list}
use Rattle.flow_list.specs.Fragments.{fills_item, fragment_of, laid_start, laid_to, places_in, row_fragments, stop_of}
use Rattle.flow_list.specs.Placing.{Placed as AnyPlaced, Laid, RowLaid, laid_edges, row}
use Rattle.flow_list.specs.Strip.{Strip, begins, strip_at}
use Rattle.flow_list.specs.Rows.{all_rows}
use Rattle.flow_list.specs.Tokens.{Token, IsPlaceBefore, item_number, within}
use Rattle.frag_pool.specs.Nodes.{Nodes}
use Rattle.frag_pool.specs.Standing.{StandsFor}
use Rattle.frag_maker.specs.Building.{IsMade, laid_row}
use Rattle.frag_maker.specs.declared.placed.MadeRow.{MadeRow}
use Rattle.inner_rows.specs.Filling.{fill_tree}
use Rattle.column_maker.specs.Walking.{item_laid, whole_rows}
use Rattle.column_maker.specs.declared.place.Cut.{Cut}

-- the trees of the columns of a row that stands in a column
abbrev pub columns_in : FlowsData → RowLaid → List PlainTree
columns_in d r = row_fragments d (length d.rows) r

-- a row that stands whole from a place on, at this height
abbrev pub whole_at : FlowsData → (r : ℕ) → Token → (h : ℕ) → RowLaid
whole_at d r q h = record { row = r; from = q; height = h; made_at = Some h; filled = false }

-- the fragment of the column of flow number f that begins at t, of height h
abbrev pub tree_of_column : FlowsData → (f : ℕ) → Token → (h : ℕ) → PlainTree
tree_of_column d f t h = fragment_of (columns_in d) (all_rows d) d f (flow_of d f) (Some h) t

-- what is placed in the column that begins at t, of height h, and ends at a place
abbrev pub placed_to : FlowsData → Flow → Token → (h : ℕ) → (end : Token) → List AnyPlaced
placed_to d f t h end =
    places_in d f t (laid_start d f t ++ laid_to (all_rows d) d f t (Some h) (stop_of (all_rows d) d f t (Some h)) end)

-- what is made of a row has the trees of its columns
abbrev pub HasColumns : FlowsData → Nodes → MadeRow → Type 0
HasColumns d p r = IsMade p (plain_trees (columns_in d (laid_row r))) r

abbrev pub AllHaveColumns : FlowsData → Nodes → List MadeRow → Type 0
AllHaveColumns d p rows = All (HasColumns d p) rows

-- the row that an item is can be taken from this place: it is before the row's end
abbrev pub IsTakenFrom : FlowsData → Item → Token → Type 0
IsTakenFrom d (Atom height kind) q = Unit {0}
IsTakenFrom d (Row r) q = IsPlaceBefore d (flow_in d r) q

-- the item in which a column ends: the one before the seam, or the row within which it ends
abbrev pub last_item : Token → ℕ
last_item [] = 0
last_item (e ∷ []) = e - 1
last_item (e ∷ (j ∷ rest)) = e

-- how many items stand in the column that begins at t
abbrev pub items_in : Token → (end : Token) → ℕ
items_in t end = last_item end + 1 - item_number t

-- whether the last item of the column is its stop, a row that is filled
abbrev pub ends_filled : FlowsData → Flow → Token → (h : ℕ) → (end : Token) → Bool
ends_filled d f t h [] = false
ends_filled d f t h (e ∷ []) = fills_item (Some h) (stop_of (all_rows d) d f t (Some h)) (e - 1) && not (e == 0)
ends_filled d f t h (e ∷ (j ∷ rest)) = true

-- what is told of the row that is filled: the room that it has, and a fragment of what it makes of that
abbrev pub IsCutAt : FlowsData → Nodes → (h : ℕ) → Option Step → Cut → Type 0
IsCutAt d p h None cut = ⊥
IsCutAt d p h (Some s) cut =
    (cut.room ≡ room s h) × IfSome s.row (λ row. StandsFor p cut.made (fill_tree d row.0 row.1 (room s h)))

-- what is told of how the column ends
abbrev pub IsEnding : FlowsData → Nodes → Flow → Token → (h : ℕ) → (end : Token) → Option Cut → Type 0
IsEnding d p f t h end cut = MatchOption cut (ends_filled d f t h end ≡ false)
    (λ c. (ends_filled d f t h end ≡ true) × IsCutAt d p h (stop_of (all_rows d) d f t (Some h)) c)

-- ---- the last item

-- whether a column ends at a seam, and not within a row
abbrev pub ends_at_seam : Token → Bool
ends_at_seam [] = true
ends_at_seam (e ∷ []) = true
ends_at_seam (e ∷ (j ∷ rest)) = false

-- the number of a row that an item is
abbrev pub row_number : Item → ℕ
row_number (Atom height kind) = 0
row_number (Row r) = r

-- a row that is filled in this room, and what is made of it
abbrev pub cut_row : Flow → (k : ℕ) → Token → (a : ℕ) → FragId → MadeRow
cut_row f k q a made =
    record { row = row_number (item_of f k); from = q; height = a; made_at = Some a; filled = true; made = made }

-- what is laid of it: the row, and the tail of the seam after it where its end was reached
abbrev pub cut_laid : Flow → (k a : ℕ) → (reached : Bool) → Strip → Token → List Laid
cut_laid f k a reached s q =
    row (record { row = row_number (item_of f k); from = q; height = a; made_at = Some a; filled = true })
    ∷ cond reached (laid_edges (strip_at (begins s + a) false) (seam_of f (k + 1)).tail) []

abbrev pub cut_room : Cut → ℕ
cut_room cut = cut.room

-- what is laid of the last item of a column: whole with the tail after it, or a row that is filled in a room
abbrev pub last_laid : FlowsData → Flow → (k : ℕ) → Option ℕ → (reached : Bool) → Strip → Token → List Laid
last_laid d f k None reached s q = item_laid (all_rows d) f s k q
last_laid d f k (Some a) reached s q = cut_laid f k a reached s q

-- ---- the rows that stand whole

-- the last item, where it is one and isn't filled
abbrev pub last_rows : Flow → (k : ℕ) → Option ℕ → Token → List (ℕ × Token)
last_rows f k None q = row_list (row_from (item_of f k) q)
last_rows f k (Some a) q = []

-- those in the column that begins at t, in order, with the places from which they are taken
abbrev pub rows_in_column : Flow → Token → (end : Token) → Option ℕ → List (ℕ × Token)
rows_in_column f t end None = whole_rows f (item_number t) (within t) (items_in t end)
rows_in_column f t end (Some a) = whole_rows f (item_number t) (within t) (last_item end - item_number t)
