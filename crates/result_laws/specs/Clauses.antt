-- The clauses of a valid result, each by the definitions of layout (this project's own). An entry may rest only on sizes that
-- entries before it have, and what those say was tested before; so a checker can test each clause by what stands in the result
-- before it.
use Rattle.std.specs.Prelude.{ℕ, ◌+◌, ◌-◌, ◌*◌, ◌==◌, Bool, true, false, cond, not, ◌&&◌, List, [], ◌∷◌, length, map, nat_lt}
use Rattle.std.specs.Prelude.{nat_le, Option, Some, None, codes}
use Rattle.std.specs.List.{flat_map, list_any, list_all}
use Rattle.std.specs.Fmt.{decimal}
use Rattle.std.specs.Str.{bytes_eq}
use Rattle.flow_list.specs.Data.{Flow, FlowsData, Item, Atom, Row}
use Rattle.flow_data.specs.Flows.{row_of, flow_of, flow_in, stack_of, item_of, rows_in}
use Rattle.flow_list.specs.Tokens.{Token, row_start, item_number}
use Rattle.flow_list.specs.Column.{Column, ColumnLine, loose_need}
use Rattle.flow_list.specs.Rows.{fits, most_columns, all_rows}
use Rattle.flow_list.specs.RowHeights.{row_height, row_columns}
use Rattle.flow_list.specs.Ranges.{Reason, tall, area, left, bad, over, Range, judged, bounds_of, lines_of, atoms_height}
use Rattle.flow_list.specs.Ranges.{reason_of, least_bound}
use Rattle.flow_list.specs.Certificate.{Use, same_token, same_use, StackRow, rows_in_stacks, numbers_below, uses_of, columns_from}
use Rattle.flow_list.specs.Certificate.{range_owned}
use Rattle.flow_list.specs.ResultText.{line_words, number_or_dash, reason_words, number_in}
use Rattle.flow_list.specs.TreeText.{token_text, tree_line_words}
use Rattle.flow_list.specs.Tree.{tree_of}
use Rattle.result_laws.specs.Failure as failure
use Rattle.result_laws.specs.Failure.{Failure, unless}
use Rattle.result_laws.specs.Given.{Head, size, balanced, filled, CitedLine, GivenRange, GivenEntry, GivenResult, column_words}

-- ---- words

-- the row of an entry, and the place from which it is taken
abbrev pub row_in : Head → ℕ
row_in (size r q h) = r
row_in (balanced r a h fits) = r
row_in (filled r a h) = r

abbrev pub from_in : Head → Token
from_in (size r q h) = q
from_in (balanced r a h fits) = row_start
from_in (filled r a h) = row_start

abbrev pub use_in : GivenEntry → Use
use_in e = (row_in e.head, from_in e.head)

-- the sizes that these entries give, in order
abbrev pub given_size : Head → List Use
given_size (size r q h) = (r, q) ∷ []
given_size (balanced r a h fits) = []
given_size (filled r a h) = []

abbrev pub sizes_in : List GivenEntry → List Use
sizes_in es = flat_map (λ (e : GivenEntry). given_size e.head) es

-- the first of these sizes that isn't in the book
unfoldable pub first_missing : List Use → List Use → Option Use
first_missing book [] = None
first_missing book (u ∷ us) = cond (list_any (same_use u) book) (first_missing book us) (Some u)

abbrev pub size_text : Use → List ℕ
size_text u = line_words (codes "size" ∷ decimal u.0 ∷ token_text u.1 ∷ [])

-- none is missing of the sizes that are used; else the first stands in the failure at this line
abbrev pub cite_at : ℕ → Option Use → Option Failure
cite_at line None = None
cite_at line (Some u) = Some (record { line = line; clause = failure.cite; expected = size_text u; found = codes "none" })

-- ---- an entry

-- whether an item is a row with this of its flow
abbrev pub is_row_with : FlowsData → Item → (Flow → Bool) → Bool
is_row_with d (Atom height kind) is = false
is_row_with d (Row r) is = is (flow_in d r)

-- a place in a flow before its end
unfoldable pub is_place : FlowsData → Flow → Token → Bool
is_place d f [] = false
is_place d f (i ∷ []) = nat_lt i (length f.items)
is_place d f (i ∷ (j ∷ rest)) = nat_lt i (length f.items) && is_row_with d (item_of f i) (λ g. is_place d g (j ∷ rest))

abbrev pub is_in_stack : FlowsData → ℕ → Bool
is_in_stack d r = list_any (λ (s : StackRow). s.row == r) (rows_in_stacks d)

-- `name`: the row is one of the data, the place one before its end, and the entry of the row's kind.
abbrev pub is_named : FlowsData → Head → Bool
is_named d (size r q h) = nat_lt r (length d.rows) && not (is_in_stack d r) && is_place d (flow_in d r) q
is_named d (balanced r a h fits) = nat_lt r (length d.rows) && is_in_stack d r && not (row_of d r).auto
is_named d (filled r a h) = nat_lt r (length d.rows) && is_in_stack d r && (row_of d r).auto

unfoldable pub name : FlowsData → GivenEntry → Option Failure
name d e = unless (is_named d e.head)
    (record { line = e.at; clause = failure.name; expected = decimal (length d.rows); found = decimal (row_in e.head) })

-- `twice`: no entry before it has this row and place.
unfoldable pub twice : List GivenEntry → GivenEntry → Option Failure
twice [] e = None
twice (b ∷ before) e = cond (same_use (use_in b) (use_in e))
    (Some (record { line = e.at; clause = failure.twice; expected = decimal b.at; found = decimal e.at })) (twice before e)

-- the rows directly in the stack of row r that stand before it
abbrev pub until : ℕ → List ℕ → List ℕ
until r [] = []
until r (n ∷ ns) = cond (n == r) [] (n ∷ until r ns)

abbrev pub rows_above : FlowsData → ℕ → List ℕ
rows_above d r =
    flat_map (λ s. let rows = rows_in (flow_of d (stack_of d s).flow) in cond (list_any (λ n. n == r) rows) (until r rows) [])
    (numbers_below (length d.stacks))

abbrev pub has_entry : List GivenEntry → ℕ → Bool
has_entry es r = list_any (λ (e : GivenEntry). row_in e.head == r) es

-- what is available to a row directly in a stack
abbrev pub available_in : List StackRow → ℕ → Option ℕ
available_in [] r = None
available_in (s ∷ rows) r = cond (s.row == r) s.available (available_in rows r)

abbrev pub available_of : FlowsData → ℕ → Option ℕ
available_of d r = available_in (rows_in_stacks d) r

abbrev pub same_option : Option ℕ → Option ℕ → Bool
same_option None None = true
same_option None (Some n) = false
same_option (Some m) None = false
same_option (Some m) (Some n) = m == n

abbrev pub avail_of : FlowsData → List GivenEntry → (at r : ℕ) → Option ℕ → Option Failure
avail_of d before at r a =
    let told = list_all (has_entry before) (rows_above d r) in
    unless (told && same_option a (available_of d r))
    (record {
      line = at;
      clause = failure.avail;
      expected = cond told (number_or_dash (available_of d r)) (codes "none");
      found = number_or_dash a;
    })

abbrev pub avail_for : FlowsData → List GivenEntry → ℕ → Head → Option Failure
avail_for d before at (size r q h) = None
avail_for d before at (balanced r a h fits) = avail_of d before at r a
avail_for d before at (filled r a h) = avail_of d before at r a

-- `avail`: the rows above it in its stack have entries, and the height that is available to it is the given one.
unfoldable pub avail : FlowsData → List GivenEntry → GivenEntry → Option Failure
avail d before e = avail_for d before e.at e.head

-- ---- a range

-- `hole`: it begins where the one before it ended, the first one at 0.
unfoldable pub hole : ℕ → GivenRange → Option Failure
hole low x = unless (x.low == low) (record { line = x.at; clause = failure.hole; expected = decimal low; found = decimal x.low })

-- `empty`: it ends above its begin.
unfoldable pub empty : GivenRange → Option Failure
empty x = unless (nat_lt x.low x.high)
    (record { line = x.at; clause = failure.empty; expected = decimal (x.low + 1); found = decimal x.high })

abbrev pub same_reason : Reason → Reason → Bool
same_reason (tall j) (tall k) = j == k
same_reason area area = true
same_reason (left p) (left q) = same_token p q
same_reason (bad b) (bad c) = b == c
same_reason (over b) (over c) = b == c
same_reason _ _ = false

abbrev pub same_end : Option Token → Option Token → Bool
same_end None None = true
same_end None (Some q) = false
same_end (Some p) None = false
same_end (Some p) (Some q) = same_token p q

abbrev pub same_line : ColumnLine → ColumnLine → Bool
same_line a b = (a.depth == b.depth) && same_end a.end b.end && same_option a.stop b.stop

abbrev pub same_lines : List ColumnLine → List ColumnLine → Bool
same_lines [] [] = true
same_lines [] (b ∷ bs) = false
same_lines (a ∷ as_) [] = false
same_lines (a ∷ as_) (b ∷ bs) = same_line a b && same_lines as_ bs

abbrev pub given_lines : GivenRange → List ColumnLine
given_lines x = map (λ (c : CitedLine). c.line) x.columns

-- `same`: the range before it has another reason or other columns.
unfoldable pub same : Option GivenRange → GivenRange → Option Failure
same None x = None
same (Some b) x =
    unless (not (same_reason b.reason x.reason && same_lines (given_lines b) (given_lines x)))
    (record { line = x.at; clause = failure.same; expected = decimal b.at; found = decimal x.at })

-- what item k needs after an unforced break, where it is an atom from a place on; else 0
abbrev pub atom_need : FlowsData → Flow → ℕ → Item → ℕ
atom_need d f k (Atom height kind) = loose_need (all_rows d) d f k
atom_need d f k (Row r) = 0

abbrev pub need_from : FlowsData → Flow → Token → ℕ → ℕ
need_from d f q k = cond (nat_le (item_number q) k && nat_lt k (length f.items)) (atom_need d f k (item_of f k)) 0

abbrev pub tall_at : FlowsData → ℕ → Token → GivenRange → ℕ → Option Failure
tall_at d r q x k =
    let need = need_from d (flow_in d r) q k
    in unless (nat_le x.high need)
    (record { line = x.at; clause = failure.tall; expected = decimal x.high; found = decimal need })

abbrev pub tall_for : FlowsData → ℕ → Token → GivenRange → Reason → Option Failure
tall_for d r q x (tall k) = tall_at d r q x k
tall_for d r q x _ = None

-- `tall`: the item is an atom from the place on, and needs as much as the range's end after an unforced break.
unfoldable pub tall_fails : FlowsData → ℕ → Token → GivenRange → Option Failure
tall_fails d r q x = tall_for d r q x x.reason

abbrev pub area_at : FlowsData → ℕ → Token → GivenRange → Option Failure
area_at d r q x =
    let room = most_columns (row_of d r).n (flow_in d r) q * (x.high - 1) in
    let sum = atoms_height (flow_in d r) q in
    unless (nat_lt room sum) (record { line = x.at; clause = failure.area; expected = decimal (room + 1); found = decimal sum })

abbrev pub area_for : FlowsData → ℕ → Token → GivenRange → Reason → Option Failure
area_for d r q x area = area_at d r q x
area_for d r q x _ = None

-- `area`: the atoms are higher together than the columns that may be used, just below the range's end.
unfoldable pub area_fails : FlowsData → ℕ → Token → GivenRange → Option Failure
area_fails d r q x = area_for d r q x x.reason

-- whether a reason speaks of columns
abbrev pub tells : Reason → Bool
tells (tall k) = false
tells area = false
tells (left q) = true
tells (bad c) = true
tells (over c) = true

-- the columns judged where the range begins
abbrev pub judged_for : FlowsData → ℕ → Token → GivenRange → List Column
judged_for d r q x = judged (all_rows d) d r q x.low

-- `cite`: the sizes that these columns use have entries before.
unfoldable pub cite : FlowsData → List GivenEntry → ℕ → Token → GivenRange → Option Failure
cite d before r q x = cite_at x.at (first_missing (sizes_in before) (uses_of (judged_for d r q x)))

abbrev pub column_text : ColumnLine → List ℕ
column_text line = line_words (column_words line)

abbrev pub end_failure : ℕ → List ℕ → List ℕ → Option Failure
end_failure line expected found = Some (record { line = line; clause = failure.end; expected = expected; found = found })

abbrev pub ends_differ : (range line : ℕ) → List ColumnLine → List ColumnLine → Option Failure
ends_differ range line [] [] = None
ends_differ range line (a ∷ right) [] = end_failure range (column_text a) (codes "none")
ends_differ range line [] (b ∷ given) = end_failure line (codes "none") (column_text b)
ends_differ range line (a ∷ right) (b ∷ given) =
    cond (same_line a b) (ends_differ range (line + 1) right given) (end_failure line (column_text a) (column_text b))

-- `end`: the column lines are those of these columns.
unfoldable pub end : FlowsData → ℕ → Token → GivenRange → Option Failure
end d r q x = ends_differ x.at (x.at + 1) (lines_of (judged_for d r q x)) (given_lines x)

abbrev pub same_numbers : List ℕ → List ℕ → Bool
same_numbers [] [] = true
same_numbers [] (n ∷ ns) = false
same_numbers (m ∷ ms) [] = false
same_numbers (m ∷ ms) (n ∷ ns) = (m == n) && same_numbers ms ns

abbrev pub numbers_text : List ℕ → List ℕ
numbers_text [] = codes "none"
numbers_text (n ∷ ns) = line_words (map decimal (n ∷ ns))

abbrev pub numbers_differ : ℕ → List (List ℕ) → List CitedLine → Option Failure
numbers_differ line right [] = None
numbers_differ line [] (c ∷ given) = None
numbers_differ line (ns ∷ right) (c ∷ given) =
    cond (same_numbers ns c.cites) (numbers_differ (line + 1) right given)
    (Some (record { line = line; clause = failure.number; expected = numbers_text ns; found = numbers_text c.cites }))

abbrev pub as_range : GivenRange → Range
as_range x = record { low = x.low; high = x.high; reason = x.reason; lines = given_lines x }

-- `number`: in the second format each column line cites the sizes that its column rests on, by their numbers.
unfoldable pub number : FlowsData → Bool → List GivenEntry → ℕ → Token → GivenRange → Option Failure
number d cites before r q x =
    cond cites (numbers_differ (x.at + 1) (map (λ us. map (number_in (sizes_in before)) us) (range_owned d r q (as_range x)))
    x.columns) None

-- `long`: the range ends no higher than where one of these columns may change.
unfoldable pub long : FlowsData → ℕ → Token → GivenRange → Option Failure
long d r q x =
    let bounds = bounds_of (judged_for d r q x) in
    unless (list_all (λ b. nat_le x.high b) bounds)
    (record {
      line = x.at;
      clause = failure.long;
      expected = number_or_dash (least_bound None bounds);
      found = decimal x.high;
    })

abbrev pub reason_text : Option Reason → List ℕ
reason_text None = codes "fits"
reason_text (Some reason) = line_words (reason_words reason)

abbrev pub is_reason : Option Reason → Reason → Bool
is_reason None given = false
is_reason (Some right) given = same_reason right given

-- `reason`: these columns show the reason.
unfoldable pub reason : FlowsData → ℕ → Token → GivenRange → Option Failure
reason d r q x =
    let right = reason_of (flow_in d r) 1 q (judged_for d r q x) in
    unless (is_reason right x.reason)
    (record { line = x.at; clause = failure.reason; expected = reason_text right; found = reason_text (Some x.reason) })

-- ---- the height of an entry

-- where the ranges end
unfoldable pub last_high : ℕ → List GivenRange → ℕ
last_high low [] = low
last_high low (x ∷ xs) = last_high x.high xs

abbrev pub reach_at : ℕ → (wanted last : ℕ) → Option Failure
reach_at line wanted last = unless (wanted == last)
    (record { line = line; clause = failure.reach; expected = decimal wanted; found = decimal last })

abbrev pub reach_for : ℕ → Head → ℕ → Option Failure
reach_for at (size r q h) last = reach_at at h last
reach_for at (balanced r a h true) last = reach_at at h last
reach_for at (balanced r None h false) last = reach_at at h last
reach_for at (balanced r (Some a) h false) last = reach_at at (a + 1) last
reach_for at (filled r a h) last = None

-- `reach`: the ranges end at the height, or one above what is available where the entry says `no`.
unfoldable pub reach : GivenEntry → Option Failure
reach e = reach_for e.at e.head (last_high 0 e.ranges)

-- all columns of an entry at its height, or as high as is available with `column-fill: auto`
abbrev pub columns_of : FlowsData → Head → List Column
columns_of d (size r q h) = columns_from d r q h
columns_of d (balanced r a h fits) = columns_from d r row_start h
columns_of d (filled r a h) = row_columns d r a

-- `cite` at the height: the sizes that these columns use have entries before.
unfoldable pub cite_height : FlowsData → List GivenEntry → GivenEntry → Option Failure
cite_height d before e = cite_at e.at (first_missing (sizes_in before) (uses_of (columns_of d e.head)))

abbrev pub height_failure : ℕ → List ℕ → List ℕ → Failure
height_failure line expected found = record { line = line; clause = failure.height; expected = expected; found = found }

abbrev pub fits_at : FlowsData → (at r : ℕ) → Token → ℕ → Option Failure
fits_at d at r q h = unless (fits (all_rows d) d r q h) (height_failure at (codes "yes") (codes "no"))

-- `height` of a balanced row: with `yes` it is no more than what is available, and fits; with `no` it is what is available.
abbrev pub balanced_height_fails : FlowsData → (at r : ℕ) → Option ℕ → ℕ → Bool → Option Failure
balanced_height_fails d at r None h true = fits_at d at r row_start h
balanced_height_fails d at r (Some a) h true =
    cond (nat_le h a) (fits_at d at r row_start h) (Some (height_failure at (decimal a) (decimal h)))
balanced_height_fails d at r None h false = Some (height_failure at (codes "yes") (codes "no"))
balanced_height_fails d at r (Some a) h false = unless (h == a) (height_failure at (decimal a) (decimal h))

abbrev pub height_for : FlowsData → ℕ → Head → Option Failure
height_for d at (size r q h) = fits_at d at r q h
height_for d at (balanced r a h fits) = balanced_height_fails d at r a h fits
height_for d at (filled r a h) = unless (h == row_height d r a) (height_failure at (decimal (row_height d r a)) (decimal h))

-- `height`: the columns at the height fit, where the entry says so; or it is that of the row.
unfoldable pub height : FlowsData → GivenEntry → Option Failure
height d e = height_for d e.at e.head

-- ---- the whole

-- `missing`: each row directly in a stack has an entry.
abbrev pub missing_of : List GivenEntry → ℕ → StackRow → Option Failure
missing_of es line s = unless (has_entry es s.row)
    (record { line = line; clause = failure.missing; expected = decimal s.row; found = codes "none" })

unfoldable pub missing : FlowsData → GivenResult → List (Option Failure)
missing d r = map (missing_of r.entries r.end_at) (rows_in_stacks d)

abbrev pub tree_failure : ℕ → List ℕ → List ℕ → Option Failure
tree_failure line expected found = Some (record { line = line; clause = failure.tree; expected = expected; found = found })

abbrev pub trees_differ : (cert line : ℕ) → List (List ℕ) → List (List ℕ) → Option Failure
trees_differ cert line [] [] = None
trees_differ cert line (a ∷ right) [] = tree_failure cert a (codes "none")
trees_differ cert line [] (b ∷ given) = tree_failure line (codes "none") b
trees_differ cert line (a ∷ right) (b ∷ given) =
    cond (bytes_eq a b) (trees_differ cert (line + 1) right given) (tree_failure line a b)

-- `tree`: the lines of the tree are those of the layout.
unfoldable pub tree : FlowsData → GivenResult → Option Failure
tree d r = trees_differ r.cert_at 2 (map tree_line_words (tree_of d)) r.tree
