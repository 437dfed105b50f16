-- Columns one after another, the heights that fit, and what a row is to the flow that it stands in.
use Rattle.std.specs.Prelude.{ℕ, zero, suc, ◌+◌, ◌-◌, max, Bool, true, false, cond, not, ◌||◌, ◌&&◌, List, [], ◌∷◌, length}
use Rattle.std.specs.Prelude.{nat_lt, take, drop, fold, count_by, sum_by}
use Rattle.std.specs.List.{list_any, flat_map}
use Rattle.flow_list.specs.Data.{Flow, FlowsData, Item, Seam, Atom, Row}
use Rattle.flow_data.specs.Flows.{row_of, flow_in, amount, boxes_in}
use Rattle.flow_list.specs.Tokens.{Token, row_start, item_number, within, is_end}
use Rattle.flow_list.specs.ClonedEdges.{tops, bottoms}
use Rattle.flow_list.specs.Column.{is_forced, Column, Filled, Inner, column, height_of}

-- the first n columns from a place on, each made by make and the next from the end of the one before, or all of them
unfoldable pub columns_by : (Token → Column) → Flow → ℕ → Token → List Column
columns_by make f zero t = []
columns_by make f (suc n) t = elim (is_end f t) [
  | true ↦ []
  | false ↦ let c = make t in c ∷ columns_by make f n c.end
]

-- the first n columns of height h from a place on, or all of them
abbrev pub columns : Inner → FlowsData → Flow → ℕ → Token → ℕ → List Column
columns inner d f n t h = columns_by (λ q. column inner d f q h) f n t

-- the place where the last of these columns ends, the first of which begins at t
abbrev pub end_of : Token → List Column → Token
end_of t cs = fold (λ q (c : Column). c.end) t cs

-- whether a column breaks a rule: it overflows, or ends at a break that isn't of level 0
abbrev pub fails : Column → Bool
fails c = c.overflow || nat_lt 0 c.level

-- whether these columns from a place on reach the end, and none breaks a rule
abbrev pub reach_end : Flow → Token → List Column → Bool
reach_end f t cs = is_end f (end_of t cs) && not (list_any fails cs)

-- how many seams above item i and below the end are forced
abbrev pub forced_above : Flow → ℕ → ℕ
forced_above f i = count_by (λ (s : Seam). is_forced s.level) (take (length f.items - i - 1) (drop (i + 1) f.seams))

-- how many columns may be used from a place on: those that the row has, or as many as forced breaks ask for
-- (this project's own)
abbrev pub most_columns : ℕ → Flow → Token → ℕ
most_columns n f t = max n (1 + forced_above f (item_number t))

-- Whether the height h fits a row from a place on: columns of that height reach the end, no more than may be used, and none
-- breaks a rule (this project's own; CSS Multi-column 1, section 7.1, leaves the height of balanced columns open).
unfoldable pub fits : Inner → FlowsData → ℕ → Token → ℕ → Bool
fits inner d r q h = reach_end (flow_in d r) q (columns inner d (flow_in d r) (most_columns (row_of d r).n (flow_in d r) q) q h)

-- the least number from h on that passes, where one of the next n does
unfoldable pub least : (ℕ → Bool) → ℕ → ℕ → ℕ
least passes zero h = h
least passes (suc n) h = elim (passes h) [ true ↦ h | false ↦ least passes n (h + 1) ]

-- the heights of these items, the first of which is taken from a place
abbrev pub heights_from : Inner → Token → List Item → ℕ
heights_from inner q [] = 0
heights_from inner q (item ∷ items) = height_of inner item q + heights_from inner row_start items

-- the amounts of all edges of these seams
abbrev pub amounts_in : List Seam → ℕ
amounts_in seams = sum_by (λ (s : Seam). sum_by amount s.tail + sum_by amount s.head) seams

-- the heights, the margins, the solid amounts and the cloned edges of a flow from a place on, all together: at this height
-- only forced breaks remain, so it fits
abbrev pub reach : Inner → FlowsData → Flow → Token → ℕ
reach inner d f q = tops d (boxes_in f) + bottoms d (boxes_in f) + amounts_in f.seams + heights_from inner (within q)
    (drop (item_number q) f.items)

-- the size of a row from a place on: the least height that fits
unfoldable pub size_in : Inner → FlowsData → ℕ → Token → ℕ
size_in inner d r q = least (fits inner d r q) (reach inner d (flow_in d r) q) 0

-- the columns up to and with the first that a test stops
abbrev pub up_to : (Column → Bool) → List Column → List Column
up_to stops [] = []
up_to stops (c ∷ cs) = c ∷ cond (stops c) [] (up_to stops cs)

-- the columns up to and with the first that overflows
abbrev pub to_overflow : List Column → List Column
to_overflow cs = up_to (λ (c : Column). c.overflow) cs

-- what these columns of a flow from a place on are to the flow around
abbrev pub filled_by : Flow → Token → List Column → Filled
filled_by f q cs = record {
  end = end_of q cs;
  at_end = is_end f (end_of q cs);
  level = fold (λ worst (c : Column). max worst c.level) 0 cs;
  overflow = list_any (λ (c : Column). c.overflow) cs;
  lines = flat_map (λ (c : Column). c.lines) (to_overflow cs);
  bounds = flat_map (λ (c : Column). c.bounds) (to_overflow cs);
  uses = flat_map (λ (c : Column). c.uses) cs;
}

-- what a row makes of a height from a place on: its columns at that height, or fewer where its end comes
unfoldable pub fill_in : Inner → FlowsData → ℕ → Token → ℕ → Filled
fill_in inner d r q a = filled_by (flow_in d r) q (columns inner d (flow_in d r) (row_of d r).n q a)

-- one for an item, and what is left within it from a place on
abbrev pub item_left : Inner → Item → Token → ℕ
item_left inner (Atom height kind) q = 1
item_left inner (Row r) q = 1 + inner.left r q

abbrev pub items_left : Inner → Token → List Item → ℕ
items_left inner q [] = 0
items_left inner q (item ∷ items) = item_left inner item q + items_left inner row_start items

-- how many items are left in a flow from a place on, with those within its rows: each column takes one at least
abbrev pub left_in : Inner → Flow → Token → ℕ
left_in inner f t = items_left inner (within t) (drop (item_number t) f.items)

-- what is told where no row stands in a row
abbrev pub no_rows : Inner
no_rows = record {
  size = λ r q. 0;
  fill = λ r q a. record { end = q; at_end = false; level = 0; overflow = false; lines = []; bounds = []; uses = [] };
  left = λ r q. 0;
}

-- what is told of rows of which at most depth stand one inside another
unfoldable pub rows_to : FlowsData → ℕ → Inner
rows_to d zero = no_rows
rows_to d (suc depth) =
    let inner = rows_to d depth in
    record { size = size_in inner d; fill = fill_in inner d; left = λ r q. left_in inner (flow_in d r) q }

-- what is told of the rows of the data: a row that stands in another one has the greater number, so no more stand one
-- inside another than there are
unfoldable pub all_rows : FlowsData → Inner
all_rows d = rows_to d (length d.rows)
