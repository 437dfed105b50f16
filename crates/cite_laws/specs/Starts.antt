-- Where the columns of lines begin, and which rows stand in them (this project's own).
use Rattle.std.specs.Prelude.{◌≡◌, ℕ, zero, suc, ◌+◌, ◌-◌, ◌==◌, cond, List, [], ◌∷◌, ◌++◌}
use Rattle.std.specs.Prelude.{length, take, slice_get, Option, Some, None}
use Rattle.flow_list.specs.Data.{Flow, FlowsData}
use Rattle.flow_data.specs.Flows.{flow_in, item_of, seam_of}
use Rattle.flow_list.specs.Tokens.{Token, item_number, within, row_start}
use Rattle.flow_list.specs.Column.{ColumnLine, is_forced, row_from, row_list}
use Rattle.flow_list.specs.Rows.{all_rows}
use Rattle.flow_list.specs.Ranges.{Range, judged, lines_of}
use Rattle.flow_list.specs.Certificate.{Use, range_owned}

-- the rows among n items from item k on, the first of which is taken from a place
abbrev pub rows_from : Flow → ℕ → Token → ℕ → List Use
rows_from f k q zero = []
rows_from f k q (suc n) = row_list (row_from (item_of f k) q) ++ rows_from f (k + 1) row_start n

-- how many of n items from item k on stand before the next forced seam
abbrev pub before_forced : Flow → ℕ → ℕ → ℕ
before_forced f k zero = 0
before_forced f k (suc n) = suc (cond (is_forced (seam_of f (k + 1)).level) 0 (before_forced f (k + 1) n))

-- how many items a column has that begins at a place, through its stop, or up to the next forced seam where it has none
abbrev pub items_to : Flow → Token → Option ℕ → ℕ
items_to f t None = before_forced f (item_number t) (length f.items - item_number t)
items_to f t (Some stop) = stop + 1 - item_number t

-- the rows among the items of a column of a row that begins at a place, with this stop
abbrev pub rows_to_stop : FlowsData → Use → Option ℕ → List Use
rows_to_stop d u stop =
    let f = flow_in d u.0 in rows_from f (item_number u.1) (within u.1) (items_to f u.1 stop)

-- where the next column of the row begins
abbrev pub next_start : Use → Option Token → Use
next_start u None = u
next_start u (Some end) = (u.0, end)

-- where the first column of the row that is the stop begins, if it is one
abbrev pub inner_start : FlowsData → Use → Option ℕ → List Use
inner_start d u None = []
inner_start d u (Some stop) = row_list (row_from (item_of (flow_in d u.0) stop) (cond (stop == item_number u.1)
    (within u.1) row_start))

-- the rows that a line rests on whose column begins here, if columns of its depth do
abbrev pub line_rows : FlowsData → Option Use → Option ℕ → List Use
line_rows d None stop = []
line_rows d (Some u) stop = rows_to_stop d u stop

-- Where the next columns of each depth begin after a line: the row in which they stand, and a place in it. Those around are as
-- before, and those of greater depth stand in the line's stop.
abbrev pub starts_behind : FlowsData → List Use → ColumnLine → Option Use → List Use
starts_behind d starts l None = starts
starts_behind d starts l (Some u) = take l.depth starts ++ next_start u l.end ∷ inner_start d u l.stop

abbrev pub starts_after : FlowsData → List Use → ColumnLine → List Use
starts_after d starts l = starts_behind d starts l (slice_get starts l.depth)

-- the rows that each of these lines rests on, where the next columns of each depth begin so
abbrev pub rows_of_lines : FlowsData → List Use → List ColumnLine → List (List Use)
rows_of_lines d starts [] = []
rows_of_lines d starts (l ∷ ls) = line_rows d (slice_get starts l.depth) l.stop ∷ rows_of_lines d (starts_after d starts l) ls

-- The law: the lines of the columns judged where a range begins tell the sizes that they rest on.
abbrev pub LinesTell : FlowsData → ℕ → Token → Range → Type 0
LinesTell d r q range =
    rows_of_lines d ((r, q) ∷ []) (lines_of (judged (all_rows d) d r q range.low)) ≡ range_owned d r q range
