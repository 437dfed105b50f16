-- The certificate of a layout: for each balanced row why each lower height was rejected, with the sizes of inner rows that this
-- rests on (this project's own).
use Rattle.std.specs.Prelude.{ℕ, zero, suc, ◌==◌, Bool, true, false, cond, ◌&&◌, List, [], ◌∷◌, ◌++◌, length, drop, filter, map}
use Rattle.std.specs.Prelude.{Option, Some, None}
use Rattle.std.specs.List.{flat_map, list_any}
use Rattle.flow_list.specs.Data.{Bound, Flow, FlowsData, Item, Atom, Row}
use Rattle.flow_data.specs.Flows.{row_of, flow_of, flow_in, stack_of}
use Rattle.flow_list.specs.Tokens.{Token, row_start}
use Rattle.flow_list.specs.Column.{Column, Inner, Step, cut, steps_from, room, is_cut, rows_among}
use Rattle.flow_list.specs.Rows.{columns, left_in, rows_to, all_rows, to_overflow}
use Rattle.flow_list.specs.RowHeights.{size_of, columns_of_row}
use Rattle.flow_list.specs.Ranges.{Range, ranges, judged}
use Rattle.flow_list.specs.Stacks.{available_to}

-- a row from a place on, whose size something rests on
abbrev pub Use : Type 0
Use = ℕ × Token

-- ---- the sizes that each line rests on

-- For each line of what a row makes of a height from a place on: the rows among the items of the line's column, through its stop.
-- The k-th list belongs to the k-th line.
pub record Owned : Type 0 where
  pub fill : ℕ → Token → ℕ → List (List Use)

abbrev pub owned_in_fill : Owned → Option Use → ℕ → List (List Use)
owned_in_fill owned None a = []
owned_in_fill owned (Some r) a = owned.fill r.0 r.1 a

-- the same of a column with this stop after these items, at a height
abbrev pub owned_by : Owned → ℕ → List Step → Option Step → List (List Use)
owned_by owned h before None = rows_among before ∷ []
owned_by owned h before (Some s) = rows_among (before ++ s ∷ []) ∷ cond (is_cut s h) (owned_in_fill owned s.row (room s h)) []

abbrev pub column_owned : Owned → Inner → FlowsData → Flow → Token → ℕ → List (List Use)
column_owned owned inner d f t h = let c = cut h (steps_from inner d f t) in owned_by owned h c.before c.stop

-- the same of these columns, of which the first begins at t
abbrev pub columns_owned : (Token → List (List Use)) → Token → List Column → List (List Use)
columns_owned owned t [] = []
columns_owned owned t (c ∷ cs) = owned t ++ columns_owned owned c.end cs

-- where at most depth rows stand one inside another
unfoldable pub owned_to : FlowsData → ℕ → Owned
owned_to d zero = record { fill = λ r q a. [] }
owned_to d (suc depth) =
    let inner = rows_to d depth in
    record {
      fill = λ r q a. columns_owned (λ t. column_owned (owned_to d depth) inner d (flow_in d r) t a) q
          (to_overflow (columns inner d (flow_in d r) (row_of d r).n q a));
    }

-- for each line of a range of row r from a place on: the sizes that it rests on, those of the k-th line in the k-th list
unfoldable pub range_owned : FlowsData → ℕ → Token → Range → List (List Use)
range_owned d r q range = columns_owned (λ t. column_owned (owned_to d (length d.rows)) (all_rows d) d (flow_in d r) t range.low)
    q (judged (all_rows d) d r q range.low)

-- ---- the sizes that are used, in order

abbrev pub uses_of : List Column → List Use
uses_of cs = flat_map (λ (c : Column). c.uses) cs

-- what the columns that are judged where a range begins use, where it speaks of columns
abbrev pub range_uses : FlowsData → ℕ → Token → Range → List Use
range_uses d r q range = cond (length range.lines == 0) [] (uses_of (judged (all_rows d) d r q range.low))

-- all columns of a row at a height from a place on
abbrev pub columns_from : FlowsData → ℕ → Token → ℕ → List Column
columns_from d r q h = columns (all_rows d) d (flow_in d r) (left_in (all_rows d) (flow_in d r) q) q h

-- the ranges of a size, and those of a balanced row where this much is available
abbrev pub size_ranges : FlowsData → ℕ → Token → List Range
size_ranges d r q = ranges (all_rows d) d r q None

abbrev pub row_ranges : FlowsData → ℕ → Option ℕ → List Range
row_ranges d r available = cond (row_of d r).auto [] (ranges (all_rows d) d r row_start available)

-- what a size uses: its ranges, and then its own columns
unfoldable pub size_uses : FlowsData → Use → List Use
size_uses d u = flat_map (range_uses d u.0 u.1) (size_ranges d u.0 u.1) ++ uses_of (columns_from d u.0 u.1 (size_of d u.0 u.1))

-- what a row directly in a stack uses
unfoldable pub row_uses : FlowsData → ℕ → Option ℕ → List Use
row_uses d r available = flat_map (range_uses d r row_start) (row_ranges d r available) ++ uses_of (columns_of_row d r available)

-- ---- the book: each size that is used stands once, after the sizes that it uses itself

abbrev pub same_token : Token → Token → Bool
same_token [] [] = true
same_token [] (j ∷ q) = false
same_token (i ∷ p) [] = false
same_token (i ∷ p) (j ∷ q) = (i == j) && same_token p q

abbrev pub same_use : Use → Use → Bool
same_use u v = (u.0 == v.0) && same_token u.1 v.1

abbrev pub stands_in : List Use → Use → Bool
stands_in book u = list_any (same_use u) book

-- these uses entered one after the other: nothing changes where one stands there, else what it uses is entered first
abbrev pub entered_with : (List Use → Use → List Use) → List Use → List Use → List Use
entered_with first book [] = book
entered_with first book (u ∷ us) = entered_with first (cond (stands_in book u) book (first book u ++ u ∷ [])) us

-- where a size uses sizes of rows that stand at most depth deep in it
unfoldable pub entered : FlowsData → ℕ → List Use → List Use → List Use
entered d zero book us = book
entered d (suc depth) book us = entered_with (λ b u. entered d depth b (size_uses d u)) book us

-- ---- the entries

-- a row directly in a stack, with what is available to it
pub record StackRow : Type 0 where
  pub row : ℕ
  pub available : Option ℕ

abbrev pub stack_row : FlowsData → Bound → Flow → ℕ → Item → List StackRow
stack_row d bound f k (Atom height kind) = []
stack_row d bound f k (Row r) = record { row = r; available = available_to d bound f k } ∷ []

abbrev pub stack_rows : FlowsData → Bound → Flow → ℕ → List Item → List StackRow
stack_rows d bound f k [] = []
stack_rows d bound f k (item ∷ items) = stack_row d bound f k item ++ stack_rows d bound f (suc k) items

abbrev pub numbers_below : ℕ → List ℕ
numbers_below zero = []
numbers_below (suc n) = numbers_below n ++ n ∷ []

-- the rows directly in stacks, by their numbers, which are those of the document's order
unfoldable pub rows_in_stacks : FlowsData → List StackRow
rows_in_stacks d =
    let all = flat_map (λ s. stack_rows d (stack_of d s).bound (flow_of d (stack_of d s).flow) 0
    (flow_of d (stack_of d s).flow).items) (numbers_below (length d.stacks)) in
    flat_map (λ n. filter (λ (r : StackRow). r.row == n) all) (numbers_below (length d.rows))

-- An entry: the size of a row from a place on; a balanced row directly in a stack; one with `column-fill: auto` in effect.
pub data Entry : Type 0 where
  size_entry : Use → Entry
  row_entry : StackRow → Entry
  auto_entry : StackRow → Entry

abbrev pub entry_of : FlowsData → StackRow → Entry
entry_of d r = cond (row_of d r.row).auto (auto_entry r) (row_entry r)

abbrev pub row_book : FlowsData → List Use → StackRow → List Use
row_book d book r = entered d (suc (length d.rows)) book (row_uses d r.row r.available)

-- before the entry of each row stand the sizes that it uses and that don't stand before
abbrev pub entries_behind : FlowsData → List Use → List StackRow → List Entry
entries_behind d book [] = []
entries_behind d book (r ∷ rs) = map size_entry (drop (length book) (row_book d book r)) ++ entry_of d r ∷ entries_behind d
    (row_book d book r) rs

abbrev pub book_behind : FlowsData → List Use → List StackRow → List Use
book_behind d book [] = book
book_behind d book (r ∷ rs) = book_behind d (row_book d book r) rs

-- the entries of the certificate, and the sizes among them in order
unfoldable pub certificate : FlowsData → List Entry
certificate d = entries_behind d [] (rows_in_stacks d)

unfoldable pub book_of : FlowsData → List Use
book_of d = book_behind d [] (rows_in_stacks d)
