-- The fragment of a column: what stands in it, box within box, with its place from the column's top (CSS Fragmentation 3, section
-- 2).
use Rattle.std.specs.Prelude.{ℕ, zero, suc, ◌+◌, ◌-◌, ◌==◌, Bool, true, false, cond, not, ◌||◌, ◌&&◌, List, [], ◌∷◌, ◌++◌, length}
use Rattle.std.specs.Prelude.{nat_lt, Option, Some, None, is_some}
use Rattle.mc_base.specs.PlainTree.{PlainTree, plain_trees, atom as atom_tree, piece, row_piece, column as column_tree}
use Rattle.flow_list.specs.Data.{Bound, Flow, FlowsData, Item, Atom, Row}
use Rattle.flow_data.specs.Flows.{box_of, row_of, flow_of, flow_in, stack_of, item_of, seam_of, open_at}
use Rattle.flow_list.specs.ClonedEdges.{open_across, tops}
use Rattle.flow_list.specs.Tokens.{Token, row_start, item_number, within}
use Rattle.flow_list.specs.Strip.{Strip, strip_at, put, lay_all, begins}
use Rattle.flow_list.specs.Column.{Column, Inner, Step, height_of, strip_behind, start_strip, steps_from, is_forced, cut, room}
use Rattle.flow_list.specs.Column.{column, endless_column}
use Rattle.flow_list.specs.Rows.{columns_by, left_in, rows_to, all_rows}
use Rattle.flow_list.specs.RowHeights.{row_height, balanced_height, size_of}
use Rattle.flow_list.specs.Stacks.{available_to, height_in_stack, stack_strip, stack_extent}
use Rattle.flow_list.specs.Placing.{RowLaid, Laid, atom, row, laid_edges, Placed, opens_at, closes_at, atom_at, row_at}
use Rattle.flow_list.specs.Placing.{places_from}

-- ---- what is laid in a column

-- an item that stands in a column whole, taken from a place
abbrev pub laid_item : Inner → Item → ℕ → Token → Laid
laid_item inner (Atom height kind) k q = atom k height
laid_item inner (Row r) k q =
    row (record { row = r; from = q; height = inner.size r q; made_at = Some (inner.size r q); filled = false })

-- n items from item k on, with the tails after them and the heads between them; the first is taken from q
unfoldable pub laid_items : Inner → Flow → Strip → ℕ → Token → ℕ → List Laid
laid_items inner f s k q zero = []
laid_items inner f s k q (suc n) =
    let behind = strip_behind inner f s k q in
    laid_item inner (item_of f k) k q ∷ laid_edges (put s (height_of inner (item_of f k) q)) (seam_of f (k + 1)).tail
    ++ elim n [
      | zero ↦ []
      | suc m ↦ laid_edges behind (seam_of f (k + 1)).head ++ laid_items inner f (lay_all behind (seam_of f (k + 1)).head) (k + 1)
          row_start n
    ]

-- the strip after these items and the tail after the last of them; before the first head where there are none
unfoldable pub strip_after : Inner → Flow → Strip → ℕ → Token → ℕ → Strip
strip_after inner f s k q zero = s
strip_after inner f s k q (suc n) = elim n [
  | zero ↦ strip_behind inner f s k q
  | suc m ↦ strip_after inner f (lay_all (strip_behind inner f s k q) (seam_of f (k + 1)).head) (k + 1) row_start n
]

-- the head that a column begins with, and the boxes that continue in it from an earlier one, the outermost first
abbrev pub laid_start : FlowsData → Flow → Token → List Laid
laid_start d f [] = []
laid_start d f (i ∷ []) = laid_edges (strip_at (tops d (open_across f i)) (not (i == 0 || is_forced (seam_of f i).level)))
    (seam_of f i).head
laid_start d f (i ∷ (j ∷ rest)) = []

abbrev pub continuing : Flow → Token → List ℕ
continuing f [] = []
continuing f (i ∷ []) = open_across f i
continuing f (i ∷ (j ∷ rest)) = open_at f i

-- a box that continues begins at the column's top, below the upper cloned edges of the boxes around it
abbrev pub continued_from : FlowsData → ℕ → List ℕ → List Placed
continued_from d y [] = []
continued_from d y (b ∷ bs) = opens_at b y false ∷ continued_from d (y + (box_of d b).top) bs

-- the stop of a column, where it has one
abbrev pub stop_of : Inner → FlowsData → Flow → Token → Option ℕ → Option Step
stop_of inner d f t None = None
stop_of inner d f t (Some h) = (cut h (steps_from inner d f t)).stop

-- whether the stop of a column of height h is item k, a row that is filled
abbrev pub fills_item : Option ℕ → Option Step → ℕ → Bool
fills_item None stop k = false
fills_item (Some h) None k = false
fills_item (Some h) (Some s) k = s.item == k && is_some s.row && nat_lt (room s h) s.height

-- a row that is filled in the room that a column of height h leaves it
abbrev pub filled_row : Option (ℕ × Token) → ℕ → List Laid
filled_row None a = []
filled_row (Some r) a = row (record { row = r.0; from = r.1; height = a; made_at = Some a; filled = true }) ∷ []

abbrev pub laid_filled : Option ℕ → Option Step → List Laid
laid_filled None stop = []
laid_filled (Some h) None = []
laid_filled (Some h) (Some s) = filled_row s.row (room s h)

-- where the strip stands after the row that is filled
abbrev pub strip_filled : Option ℕ → Option Step → Strip
strip_filled None stop = strip_at 0 false
strip_filled (Some h) None = strip_at 0 false
strip_filled (Some h) (Some s) = strip_at (s.y + room s h) false

-- the items from k on before a row that is filled, with the head before it
abbrev pub laid_before : Inner → Flow → Strip → ℕ → Token → ℕ → List Laid
laid_before inner f s k q zero = []
laid_before inner f s k q (suc n) = laid_items inner f s k q (suc n) ++ laid_edges (strip_after inner f s k q (suc n))
    (seam_of f (k + (suc n))).head

-- What is laid in the column that begins at t and ends at a place: whole items up to that place; or up to a row that is filled,
-- then the row, and the tail after it where the row's end was reached.
abbrev pub laid_to : Inner → FlowsData → Flow → Token → Option ℕ → Option Step → Token → List Laid
laid_to inner d f t h stop [] = []
laid_to inner d f t h stop (e ∷ []) =
    cond (fills_item h stop (e - 1) && not (e == 0))
    (laid_before inner f (start_strip d f t) (item_number t) (within t) (e - 1 - item_number t) ++ laid_filled h stop
    ++ laid_edges (strip_filled h stop) (seam_of f e).tail)
    (laid_items inner f (start_strip d f t) (item_number t) (within t) (e - item_number t))
laid_to inner d f t h stop (e ∷ (j ∷ rest)) =
    laid_before inner f (start_strip d f t) (item_number t) (within t) (e - item_number t) ++ laid_filled h stop

-- where the first item or edge of a column stands: below the upper cloned edges of the boxes that continue
abbrev pub places_in : FlowsData → Flow → Token → List Laid → List Placed
places_in d f t xs = continued_from d 0 (continuing f t) ++ places_from (length xs + 1) (tops d (continuing f t)) xs

-- ---- trees

-- whether this is where box b ends
abbrev pub closes_here : ℕ → Placed → Bool
closes_here b (opens_at c y starts) = false
closes_here b (closes_at c y) = c == b
closes_here b (atom_at k y) = false
closes_here b (row_at r y) = false

-- what stands before box b ends, what stands after that, and where it ends
abbrev pub inside_box : ℕ → List Placed → List Placed
inside_box b [] = []
inside_box b (x ∷ xs) = cond (closes_here b x) [] (x ∷ inside_box b xs)

abbrev pub behind_box : ℕ → List Placed → List Placed
behind_box b [] = []
behind_box b (x ∷ xs) = cond (closes_here b x) xs (behind_box b xs)

abbrev pub place_of : Placed → ℕ
place_of (opens_at c y starts) = y
place_of (closes_at c y) = y
place_of (atom_at k y) = y
place_of (row_at r y) = y

abbrev pub bottom_of : ℕ → List Placed → Option ℕ
bottom_of b [] = None
bottom_of b (x ∷ xs) = cond (closes_here b x) (Some (place_of x)) (bottom_of b xs)

-- The trees of what is placed: each box with what stands before its end, atoms and rows; n counts them. The columns of a row are
-- given.
unfoldable pub trees_of : (RowLaid → List PlainTree) → ℕ → List Placed → List PlainTree
trees_of columns zero xs = []
trees_of columns (suc n) [] = []
trees_of columns (suc n) (opens_at b y starts ∷ xs) =
    piece b starts y (bottom_of b xs) (plain_trees (trees_of columns n (inside_box b xs))) ∷ trees_of columns n (behind_box b xs)
trees_of columns (suc n) (closes_at b y ∷ xs) = trees_of columns n xs
trees_of columns (suc n) (atom_at k y ∷ xs) = atom_tree k y ∷ trees_of columns n xs
trees_of columns (suc n) (row_at r y ∷ xs) =
    row_piece r.row r.from y (cond r.filled None (Some r.height)) (plain_trees (columns r)) ∷ trees_of columns n xs

abbrev pub all_trees : (RowLaid → List PlainTree) → List Placed → List PlainTree
all_trees columns xs = trees_of columns (length xs) xs

-- ---- columns of rows, and of rows within rows

-- a column of a flow from a place on, at a height or without end
abbrev pub column_made : Inner → FlowsData → Flow → Option ℕ → Token → Column
column_made inner d f None t = endless_column inner d f t
column_made inner d f (Some h) t = column inner d f t h

-- the fragment of that column, given the columns of the rows in it
abbrev pub fragment_of : (RowLaid → List PlainTree) → Inner → FlowsData → (number : ℕ) → Flow → Option ℕ → Token → PlainTree
fragment_of columns inner d number f h t =
    let c = column_made inner d f h t in
    column_tree number t c.end c.extent
    (plain_trees (all_trees columns
    (places_in d f t (laid_start d f t ++ laid_to inner d f t h (stop_of inner d f t h) c.end))))

-- the fragments of these columns, of which the first begins at t
abbrev pub fragments_from : (Token → PlainTree) → Token → List Column → List PlainTree
fragments_from make t [] = []
fragments_from make t (c ∷ cs) = make t ∷ fragments_from make c.end cs

-- how many columns a row that is laid has at most: those that it has where it is filled, else as many as there are items left
abbrev pub columns_wanted : Inner → FlowsData → RowLaid → ℕ
columns_wanted inner d r = cond r.filled (row_of d r.row).n (left_in inner (flow_in d r.row) r.from)

-- the columns of a row that is laid, where at most depth rows stand one inside another
unfoldable pub row_fragments : FlowsData → ℕ → RowLaid → List PlainTree
row_fragments d zero r = []
row_fragments d (suc depth) r =
    let inner = rows_to d depth in
    let f = flow_in d r.row in
    fragments_from (fragment_of (row_fragments d depth) inner d (row_of d r.row).flow f r.made_at) r.from
    (columns_by (column_made inner d f r.made_at) f (columns_wanted inner d r) r.from)

-- the fragment of the column of row r that begins at t, at a height or without end
unfoldable pub column_fragment : FlowsData → ℕ → Option ℕ → Token → PlainTree
column_fragment d r h t = fragment_of (row_fragments d (length d.rows)) (all_rows d) d (row_of d r).flow (flow_in d r) h t

-- ---- stacks

-- an item of a stack's flow, where it stands: a row has the height that it has there
abbrev pub laid_in_stack : FlowsData → Bound → Flow → ℕ → Item → Laid
laid_in_stack d bound f k (Atom height kind) = atom k height
laid_in_stack d bound f k (Row r) =
    let available = available_to d bound f k in
    row (record {
      row = r;
      from = row_start;
      height = row_height d r available;
      made_at = cond (row_of d r).auto available (Some (balanced_height available (size_of d r row_start)));
      filled = false;
    })

-- n items of a stack's flow from item k on, with the edges around them
unfoldable pub stack_laid : FlowsData → Bound → Flow → ℕ → ℕ → List Laid
stack_laid d bound f k zero = []
stack_laid d bound f k (suc n) =
    let s = stack_strip d bound f k in
    let behind = put s (height_in_stack d bound (item_of f k) (begins s)) in
    laid_in_stack d bound f k (item_of f k)
    ∷ laid_edges behind (seam_of f (k + 1)).tail ++ laid_edges (lay_all behind (seam_of f (k + 1)).tail) (seam_of f (k + 1)).head
    ++ stack_laid d bound f (k + 1) n

-- the fragment of a stack: its strip as one column, from its start to its end
unfoldable pub stack_fragment : FlowsData → ℕ → PlainTree
stack_fragment d s =
    let number = (stack_of d s).flow in
    let f = flow_of d number in
    let bound = (stack_of d s).bound in
    let laid = laid_edges (strip_at (tops d f.opened) false) (seam_of f 0).head ++ stack_laid d bound f 0 (length f.items) in
    column_tree number row_start (length f.items ∷ []) (stack_extent d bound f)
    (plain_trees (all_trees (row_fragments d (suc (length d.rows)))
    (continued_from d 0 f.opened ++ places_from (length laid + 1) (tops d f.opened) laid)))
