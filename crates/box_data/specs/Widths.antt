-- How wide boxes are (CSS 2.1, sections 10.3 and 10.4; CSS Multi-column 1, section 3.4), and how large images.
use Rattle.std.specs.Prelude.{ℕ, suc, ◌+◌, ◌-◌, ◌*◌, ◌/◌, min, Bool, ◌&&◌, ◌||◌, nat_lt, if◌then◌else◌, List, [], ◌∷◌, map, Option, Some, None, is_some, not, true, false, flat_map, slice_index_or}
use Rattle.inline_text.specs.declared.content.Piece.{Piece}
use Rattle.inline_text.specs.declared.content.Piece.TheVariants as pieces
use Rattle.line_breaker.specs.declared.line.Line.{Line}
use Rattle.col_geometry.specs.declared.columns.Columns.{Columns}
use Rattle.col_geometry.specs.Geometry.{used_columns}
pub use Rattle.box_data.specs.declared.placed.ImageSize.{ImageSize as Size}
pub use Rattle.box_data.specs.declared.placed.Placed.{Placed}
use Rattle.box_data.specs.Styles.{Length, SideAmounts, BoxStyle, style_of, inherited, capped, resolved, is_length}
use Rattle.box_data.specs.BoxTree.{Boxes, none, box, Kind, block_box, anonymous, container, image_block, Node, box_count, or_zero}

-- ---- across

-- the margins of a box and the width of its content
pub record Across : Type 0 where
  pub before : ℕ
  pub w : ℕ
  pub after : ℕ

-- what `auto` as width gives: the rest
abbrev pub filling : (whole edges : ℕ) → Option ℕ → Option ℕ → Across
filling whole edges before after =
    record { before = or_zero before; w = whole - (edges + or_zero before + or_zero after); after = or_zero after }

-- With a width: two `auto` margins share the rest, one takes it, and without one the right margin is given up.
abbrev pub fixed : (whole edges : ℕ) → Option ℕ → Option ℕ → ℕ → Across
fixed whole edges None None w =
    let rest = whole - (edges + w) in
    record { before = rest / 2; w = w; after = rest - rest / 2 }
fixed whole edges None (Some after) w = record { before = whole - (edges + w + after); w = w; after = after }
fixed whole edges (Some before) None w = record { before = before; w = w; after = whole - (edges + w + before) }
fixed whole edges (Some before) (Some after) w = record { before = before; w = w; after = whole - (edges + w + before) }

abbrev pub across_of : (whole edges : ℕ) → Option ℕ → Option ℕ → Option ℕ → Across
across_of whole edges before after None = filling whole edges before after
across_of whole edges before after (Some w) = fixed whole edges before after w

-- the rule again where the result is wider than `max-width`
abbrev pub at_most : (whole edges : ℕ) → Option ℕ → Option ℕ → (most : Option ℕ) → Across → Across
at_most whole edges before after None across = across
at_most whole edges before after (Some most) across = if nat_lt most across.w then fixed whole edges before after most else across

abbrev pub less : ℕ → Option ℕ → Option ℕ
less by None = None
less by (Some u) = Some (u - by)

-- ---- images

abbrev pub or_value : Option ℕ → ℕ → ℕ
or_value None u = u
or_value (Some v) u = v

abbrev pub lowered : Option ℕ → ℕ → ℕ
lowered None u = u
lowered (Some most) u = min most u

-- the height of an image w wide: by the ratio of its attributes where that isn't their width, given or lowered
abbrev pub by_ratio : (replaced : Bool) (w attribute_w attribute_h : ℕ) → ℕ
by_ratio replaced w attribute_w attribute_h =
    if replaced && nat_lt 0 attribute_w then capped (w * attribute_h / attribute_w) else attribute_h

-- the size of an image by its style, its attributes and the width around it; `border-box` takes this much off across and down
abbrev pub image_size : BoxStyle → (whole less_across less_down attribute_w attribute_h : ℕ) → Size
image_size s whole less_across less_down attribute_w attribute_h =
    let given = less less_across (resolved s.width whole) in
    let most = less less_across (resolved s.max_width whole) in
    let before = or_value given attribute_w in
    let w = lowered most before in
    let replaced = is_some given || nat_lt w before in
    let height = if is_length s.height then less less_down (resolved s.height 0) else None in
    record { w = w; h = or_value height (by_ratio replaced w attribute_w attribute_h) }

-- ---- boxes in their places

-- the lines of each box by its number
abbrev pub lines_at : List (List Line) → ℕ → List Line
lines_at lines n = slice_index_or lines n []

-- The containing block: where it begins from the left of the flow, and how wide it is; the same for what spans the columns of the
-- container around; and whether there is one, and a spanner between.
pub record Place : Type 0 where
  pub x : ℕ
  pub w : ℕ
  pub span_x : ℕ
  pub span_w : ℕ
  pub in_container : Bool
  pub in_spanner : Bool

-- a box with this style spans the columns of the container around it, unless it stands in a spanner there (CSS Multi-column 1, section 6)
abbrev pub spans_in : Place → BoxStyle → Bool
spans_in place s = s.span_all && (place.in_container && not place.in_spanner)

abbrev pub style_in : List BoxStyle → Node → BoxStyle
style_in styles node = elim (node.kind) as (λ k. BoxStyle) [ block_box ↦ style_of styles node.element | anonymous ↦ inherited (style_of styles node.element) | container ↦ style_of styles node.element | image_block ↦ style_of styles node.element ]

abbrev pub run_in : Node → List Piece
run_in node = elim (node.run) as (λ r. List Piece) [ None ↦ [] | Some run ↦ run ]

-- the pieces with the used sizes of their images, which stand in lines this wide
abbrev pub sized : List BoxStyle → (whole : ℕ) → Piece → Piece
sized styles whole (pieces.Char ch style) = pieces.Char ch style
sized styles whole (pieces.Image w h style) = let size = image_size (style_of styles style) whole 0 0 w h in pieces.Image size.w size.h style
sized styles whole pieces.Forced = pieces.Forced
sized styles whole pieces.Chance = pieces.Chance

abbrev pub size_in : Piece → List Size
size_in (pieces.Char ch style) = []
size_in (pieces.Image w h style) = record { w = w; h = h } ∷ []
size_in pieces.Forced = []
size_in pieces.Chance = []

-- the sizes of the images in a run, in order
abbrev pub sizes_in : List Piece → List Size
sizes_in run = flat_map size_in run

abbrev pub first_size : List Size → Size
first_size [] = record { w = 0; h = 0 }
first_size (size ∷ sizes) = size

-- one column as wide as its box, of what has no columns
abbrev pub one_column : ℕ → Columns
one_column w = record { n = 1; w = w; step = w }

abbrev pub gap_in : Kind → BoxStyle → (w : ℕ) → ℕ
gap_in block_box s w = 0
gap_in anonymous s w = 0
gap_in container s w = or_value (resolved s.column_gap w) s.size
gap_in image_block s w = 0

abbrev pub columns_in : Kind → BoxStyle → (w : ℕ) → Columns
columns_in block_box s w = one_column w
columns_in anonymous s w = one_column w
columns_in container s w = used_columns w s.column_count s.column_width (gap_in container s w)
columns_in image_block s w = one_column w

-- how wide the lines of a box are: in a container as its columns
abbrev pub line_width : Kind → BoxStyle → (w : ℕ) → ℕ
line_width kind s w = (columns_in kind s w).w

abbrev pub images_in : Kind → List Piece → List Size
images_in block_box run = sizes_in run
images_in anonymous run = sizes_in run
images_in container run = sizes_in run
images_in image_block run = []

-- a box as wide as this in its place, with the height of its content where it has one
abbrev pub placed_across : List BoxStyle → List (List Line) → (parent : Option ℕ) → (number : ℕ) → Node → Place → Across → (h : ℕ) → Placed
placed_across styles lines parent number node place across h =
    let s = style_in styles node in
    let spans = spans_in place s in
    let whole = if spans then place.span_w else place.w in
    let pad = λ (l : Length). or_zero (resolved l whole) in
    let padding : SideAmounts = record { top = pad s.padding.top; right = pad s.padding.right; bottom = pad s.padding.bottom; left = pad s.padding.left } in
    let before = s.border.left + padding.left in
    let x = (if spans then place.span_x else place.x) + across.before in
    record {
      number = number;
      parent = parent;
      element = node.element;
      kind = node.kind;
      spans = spans;
      style = s;
      margin = record { top = pad s.margin.top; right = across.after; bottom = pad s.margin.bottom; left = across.before };
      padding = padding;
      top = s.border.top + padding.top;
      bottom = s.border.bottom + padding.bottom;
      x = x;
      outer_w = before + across.w + padding.right + s.border.right;
      content_x = x + before;
      w = across.w;
      h = h;
      gap = gap_in node.kind s across.w;
      columns = columns_in node.kind s across.w;
      images = images_in node.kind (map (sized styles (line_width node.kind s across.w)) (run_in node));
      lines = lines_at lines number;
    }

-- the widths and, where one is used, the height of a box
abbrev pub placed_one : List BoxStyle → List (List Line) → (parent : Option ℕ) → (number : ℕ) → Node → Place → Placed
placed_one styles lines parent number node place =
    let s = style_in styles node in
    let whole = if spans_in place s then place.span_w else place.w in
    let pad = λ (l : Length). or_zero (resolved l whole) in
    let edges = s.border.left + pad s.padding.left + pad s.padding.right + s.border.right in
    let less_across = if s.border_box then edges else 0 in
    let less_down = if s.border_box then s.border.top + pad s.padding.top + pad s.padding.bottom + s.border.bottom else 0 in
    let before = resolved s.margin.left whole in
    let after = resolved s.margin.right whole in
    let attributes = first_size (sizes_in (run_in node)) in
    let size = image_size s whole less_across less_down attributes.w attributes.h in
    let block_across = at_most whole edges before after (less less_across (resolved s.max_width whole)) (across_of whole edges before after (less less_across (resolved s.width whole))) in
    placed_across styles lines parent number node place
    (elim (node.kind) as (λ k. Across) [ block_box ↦ block_across | anonymous ↦ block_across | container ↦ block_across | image_block ↦ fixed whole edges before after size.w ])
    (elim (node.kind) as (λ k. ℕ) [ block_box ↦ 0 | anonymous ↦ 0 | container ↦ or_zero (resolved s.height 0) - less_down | image_block ↦ size.h ])

-- whether a container has a height of its own
abbrev pub is_bounded : Placed → Bool
is_bounded p = is_length p.style.height

-- Where the boxes in a box stand: in its content, or in the first column of a container; what spans those columns is as wide as the
-- container's content, and stands in the flow around it, or in the stack of a container with a height.
abbrev pub place_in : Placed → Place → Place
place_in p place = elim (p.kind) as (λ k. Place) [
  | block_box ↦ record { x = p.content_x; w = p.w; span_x = place.span_x; span_w = place.span_w; in_container = place.in_container; in_spanner = place.in_spanner || p.spans }
  | anonymous ↦ record { x = p.content_x; w = p.w; span_x = place.span_x; span_w = place.span_w; in_container = place.in_container; in_spanner = place.in_spanner || p.spans }
  | container ↦ record { x = 0; w = p.columns.w; span_x = if is_bounded p then 0 else p.content_x; span_w = p.w; in_container = true; in_spanner = false }
  | image_block ↦ record { x = p.content_x; w = p.w; span_x = place.span_x; span_w = place.span_w; in_container = place.in_container; in_spanner = place.in_spanner || p.spans }
]

-- the boxes in their places, numbered from n, in the box of this number
abbrev pub placed_from : List BoxStyle → List (List Line) → (parent : Option ℕ) → (n : ℕ) → Place → Boxes Node → Boxes Placed
placed_from styles lines parent n place none = none
placed_from styles lines parent n place (box node kids next) =
    let p = placed_one styles lines parent n node place in
    box p (placed_from styles lines (Some n) (suc n) (place_in p place) kids) (placed_from styles lines parent (suc n + box_count kids) place next)

abbrev pub outermost : (width : ℕ) → Place
outermost width = record { x = 0; w = width; span_x = 0; span_w = width; in_container = false; in_spanner = false }

-- the boxes of a document as wide as this, with these lines
abbrev pub placed : List BoxStyle → List (List Line) → (width : ℕ) → Boxes Node → Boxes Placed
placed styles lines width boxes = placed_from styles lines None 0 (outermost width) boxes
