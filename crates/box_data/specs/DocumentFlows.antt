-- The flows of a document (CSS 2.1, section 8.3.1; CSS Fragmentation 3, sections 4 and 5.2). Rows and further stacks are numbered in the
-- order in which they begin, and each takes the next flow: so where r rows and s stacks have begun, stack 0 included, the next flow
-- is r + s.
use Rattle.std.specs.Prelude.{ℕ, suc, ◌+◌, ◌-◌, ◌/◌, ◌==◌, Bool, true, false, ◌&&◌, ◌||◌, if◌then◌else◌, List, [], ◌∷◌, ◌++◌, length, map, flat_map, drop, reverse, Option, Some, None}
use Rattle.std.specs.List.{list_any}
use Rattle.mc_base.specs.declared.level.Level.TheVariants.{L0}
use Rattle.break_rules.specs.declared.seam.LineCounts.{LineCounts}
use Rattle.break_rules.specs.declared.seam.SeamBoxes.{SeamBoxes}
use Rattle.break_rules.specs.Levels.{level_of}
use Rattle.flow_data.specs.declared.data.AtomKind.TheVariants.{Line, Void, Image, Bounded}
use Rattle.flow_data.specs.declared.data.Bound.{Bound}
use Rattle.flow_data.specs.declared.data.Bound.TheVariants.{Free, Each, Left}
use Rattle.flow_data.specs.declared.data.BoxInfo.{BoxInfo}
use Rattle.flow_data.specs.declared.data.Edge.{Edge}
use Rattle.flow_data.specs.declared.data.Edge.TheVariants.{Margin, Solid, Wall, Start, End}
use Rattle.flow_data.specs.declared.data.Flow.{Flow}
use Rattle.flow_data.specs.declared.data.FlowsData.{FlowsData}
use Rattle.flow_data.specs.declared.data.Item.{Item}
use Rattle.flow_data.specs.declared.data.Item.TheVariants.{Atom, Row}
use Rattle.flow_data.specs.declared.data.RowInfo.{RowInfo}
use Rattle.flow_data.specs.declared.data.Seam.{Seam}
use Rattle.flow_data.specs.declared.data.Stack.{Stack}
use Rattle.line_breaker.specs.declared.line.Line.{Line as TextLine}
use Rattle.box_data.specs.Styles.{BoxStyle, Align, left, right, center}
use Rattle.box_data.specs.BoxTree.{Boxes, Node, in_order, block_box, anonymous, container, image_block}
use Rattle.box_data.specs.Widths.{Placed, placed}
use Rattle.box_data.specs.Content.{Leaf, line, image, void, Holder, stack, row, Content, done, opens, closes, leaf, holds, spanner, content_of}

-- ---- edges

-- zero amounts are left out
abbrev pub margin_edge : ℕ → List Edge
margin_edge u = if u == 0 then [] else Margin u ∷ []

abbrev pub solid_edge : ℕ → List Edge
solid_edge u = if u == 0 then [] else Solid u ∷ []

-- html, each container and each spanner start a new block formatting context
abbrev pub wall_edge : Placed → List Edge
wall_edge p =
    let is_container = elim (p.kind) as (λ k. Bool) [ block_box ↦ false | anonymous ↦ false | container ↦ true | image_block ↦ false ] in
    if is_container || p.spans || p.number == 0 then Wall ∷ [] else []

abbrev pub opening : Placed → List Edge
opening p = margin_edge p.margin.top ++ (Start p.number ∷ (solid_edge p.top ++ wall_edge p))

abbrev pub closing : Placed → List Edge
closing p = wall_edge p ++ (solid_edge p.bottom ++ (End p.number ∷ margin_edge p.margin.bottom))

-- ---- seams

-- the boxes that close before the next item, and behind those the boxes that open before it
abbrev pub closed_first : Content → List Placed
closed_first done = []
closed_first (opens p next) = []
closed_first (closes p next) = p ∷ closed_first next
closed_first (leaf l next) = []
closed_first (holds h inside next) = []
closed_first (spanner inside next) = []

abbrev pub opened_then : Content → List Placed
opened_then done = []
opened_then (opens p next) = p ∷ opened_then next
opened_then (closes p next) = opened_then next
opened_then (leaf l next) = []
opened_then (holds h inside next) = []
opened_then (spanner inside next) = []

-- no item follows
abbrev pub is_end : Content → Bool
is_end done = true
is_end (opens p next) = is_end next
is_end (closes p next) = is_end next
is_end (leaf l next) = false
is_end (holds h inside next) = false
is_end (spanner inside next) = is_end next

-- class B: before each line of a block container but the first, the lines before it and those from it on
abbrev pub leaf_counts : Leaf → Option LineCounts
leaf_counts (line p index size) =
    if index == 0 then None else Some (record { before = index; after = length p.lines - index; orphans = p.style.orphans; widows = p.style.widows })
leaf_counts (image p) = None
leaf_counts (void p x) = None

abbrev pub line_counts : Content → Option LineCounts
line_counts done = None
line_counts (opens p next) = None
line_counts (closes p next) = None
line_counts (leaf l next) = leaf_counts l
line_counts (holds h inside next) = None
line_counts (spanner inside next) = None

-- what the boxes at a seam ask for: those that end there, those that start there, those open across it
abbrev pub seam_boxes : (still_open : List Placed) → Content → SeamBoxes
seam_boxes still_open content = record {
  after = map (λ (p : Placed). p.style.break_after) (closed_first content);
  before = map (λ (p : Placed). p.style.break_before) (opened_then content);
  inside_avoid = list_any (λ (p : Placed). p.style.avoid_inside) (drop (length (closed_first content)) still_open);
  lines = line_counts content;
}

-- the seam between an item and what follows it, where these boxes are open at the item, the innermost first
abbrev pub seam_behind : (still_open : List Placed) → Content → Seam
seam_behind still_open content = record {
  tail = flat_map closing (closed_first content);
  head = flat_map opening (opened_then content);
  level = if is_end content then L0 else level_of (seam_boxes still_open content);
}

abbrev pub seams_behind : (still_open : List Placed) → Content → List Seam
seams_behind still_open done = []
seams_behind still_open (opens p next) = seams_behind (p ∷ still_open) next
seams_behind still_open (closes p next) = seams_behind (drop 1 still_open) next
seams_behind still_open (leaf l next) = seam_behind still_open next ∷ seams_behind still_open next
seams_behind still_open (holds h inside next) = seam_behind still_open next ∷ seams_behind still_open next
seams_behind still_open (spanner inside next) = seams_behind still_open next

abbrev pub first_seam : Content → Seam
first_seam content = record { tail = []; head = flat_map opening (opened_then content); level = L0 }

-- ---- items

-- how many rows and stacks have begun
pub record Begun : Type 0 where
  pub rows : ℕ
  pub stacks : ℕ

abbrev pub with_row : Begun → Begun
with_row n = record { rows = suc n.rows; stacks = n.stacks }

abbrev pub with_stack : Begun → Begun
with_stack n = record { rows = n.rows; stacks = suc n.stacks }

abbrev pub next_flow : Begun → ℕ
next_flow n = n.rows + n.stacks

-- behind the start of a row or a stack
abbrev pub begun_in : Begun → Holder → Begun
begun_in n (stack p) = with_stack n
begun_in n (row p x is_last opened) = with_row n

-- behind this content
abbrev pub past : Begun → Content → Begun
past n done = n
past n (opens p next) = past n next
past n (closes p next) = past n next
past n (leaf l next) = past n next
past n (holds h inside next) = past (past (begun_in n h) inside) next
past n (spanner inside next) = past n next

-- how far a line stands from the left of its box
abbrev pub aligned : Align → (rest : ℕ) → ℕ
aligned left rest = 0
aligned right rest = rest
aligned center rest = rest / 2

-- the left of the lines in a box, and their width: in a container those of its first column
abbrev pub lines_x : Placed → ℕ
lines_x p = elim (p.kind) as (λ k. ℕ) [ block_box ↦ p.content_x | anonymous ↦ p.content_x | container ↦ 0 | image_block ↦ p.content_x ]

abbrev pub lines_w : Placed → ℕ
lines_w p = p.columns.w

abbrev pub leaf_item : Leaf → Item
leaf_item (line p index size) = Atom size.h (Line p.number index (lines_x p + aligned p.style.align (lines_w p - size.w)) size.w)
leaf_item (image p) = Atom p.h (Image p.number p.content_x p.w)
leaf_item (void p x) = Atom 0 (Void p.number x p.w)

abbrev pub holder_item : Begun → Holder → Item
holder_item n (stack p) = Atom p.h (Bounded p.number n.stacks p.content_x)
holder_item n (row p x is_last opened) = Row n.rows

abbrev pub items_from : Begun → Content → List Item
items_from n done = []
items_from n (opens p next) = items_from n next
items_from n (closes p next) = items_from n next
items_from n (leaf l next) = leaf_item l ∷ items_from n next
items_from n (holds h inside next) = holder_item n h ∷ items_from (past (begun_in n h) inside) next
items_from n (spanner inside next) = items_from n next

-- ---- flows, rows and stacks, each before those within it

abbrev pub flow_with : (opened : List Placed) → Begun → Content → Flow
flow_with opened n content = record {
  opened = map (λ (p : Placed). p.number) opened;
  items = items_from n content;
  seams = first_seam content ∷ seams_behind (reverse opened) content;
}

abbrev pub opened_in : Holder → List Placed
opened_in (stack p) = []
opened_in (row p x is_last opened) = opened

abbrev pub flows_from : Begun → Content → List Flow
flows_from n done = []
flows_from n (opens p next) = flows_from n next
flows_from n (closes p next) = flows_from n next
flows_from n (leaf l next) = flows_from n next
flows_from n (holds h inside next) =
    let m = begun_in n h in
    flow_with (opened_in h) m inside ∷ flows_from m inside ++ flows_from (past m inside) next
flows_from n (spanner inside next) = flows_from n next

abbrev pub is_stack : Holder → Bool
is_stack (stack p) = true
is_stack (row p x is_last opened) = false

-- `column-fill: auto` has effect in a row directly in a stack that ends at its container's end
abbrev pub row_of : Begun → (in_stack : Bool) → Holder → List RowInfo
row_of n in_stack (stack p) = []
row_of n in_stack (row p x is_last opened) =
    record { flow = next_flow n; n = p.columns.n; w = p.columns.w; step = p.columns.step; x = x; auto = in_stack && p.style.fill_auto && is_last } ∷ []

abbrev pub rows_from : Begun → (in_stack : Bool) → Content → List RowInfo
rows_from n in_stack done = []
rows_from n in_stack (opens p next) = rows_from n in_stack next
rows_from n in_stack (closes p next) = rows_from n in_stack next
rows_from n in_stack (leaf l next) = rows_from n in_stack next
rows_from n in_stack (holds h inside next) =
    let m = begun_in n h in
    row_of n in_stack h ++ rows_from m (is_stack h) inside ++ rows_from (past m inside) in_stack next
rows_from n in_stack (spanner inside next) = rows_from n in_stack next

abbrev pub stack_of : Begun → Holder → List Stack
stack_of n (stack p) = record { flow = next_flow n; w = p.w; bound = Left p.h } ∷ []
stack_of n (row p x is_last opened) = []

abbrev pub stacks_from : Begun → Content → List Stack
stacks_from n done = []
stacks_from n (opens p next) = stacks_from n next
stacks_from n (closes p next) = stacks_from n next
stacks_from n (leaf l next) = stacks_from n next
stacks_from n (holds h inside next) =
    let m = begun_in n h in
    stack_of n h ++ stacks_from m inside ++ stacks_from (past m inside) next
stacks_from n (spanner inside next) = stacks_from n next

-- ---- the document

abbrev pub box_info : Placed → BoxInfo
box_info p = record {
  x = p.x;
  w = p.outer_w;
  avoid = p.style.avoid_inside;
  top = if p.style.cloned then p.top else 0;
  bottom = if p.style.cloned then p.bottom else 0;
}

abbrev pub bound_of : Option ℕ → Bound
bound_of None = Free
bound_of (Some available) = Each available

-- stack 0 has flow 0
abbrev pub nothing_begun : Begun
nothing_begun = record { rows = 0; stacks = 1 }

abbrev pub flows_of_content : (width : ℕ) (height : Option ℕ) → List BoxInfo → Content → FlowsData
flows_of_content width height boxes content = record {
  flows = flow_with [] nothing_begun content ∷ flows_from nothing_begun content;
  rows = rows_from nothing_begun true content;
  boxes = boxes;
  stacks = record { flow = 0; w = width; bound = bound_of height } ∷ stacks_from nothing_begun content;
}

abbrev pub flows_of_boxes : List BoxStyle → List (List TextLine) → (width : ℕ) (height : Option ℕ) → Boxes Node → FlowsData
flows_of_boxes styles lines width height boxes =
    let places = placed styles lines width boxes in
    flows_of_content width height (map box_info (in_order places)) (content_of places)
