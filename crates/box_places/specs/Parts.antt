-- The parts of which the width of a box is made, by the words of widths (CSS 2.1, sections 10.3 and 10.4).
use Rattle.std.specs.Prelude.{ℕ, ◌+◌, ◌-◌, if◌then◌else◌, List, [], map, Option, Some, None}
use Rattle.inline_text.specs.declared.content.Piece.{Piece}
use Rattle.inline_text.specs.declared.content.Runs.{Runs}
use Rattle.box_data.specs.declared.tree.BoxNode.{BoxNode}
use Rattle.box_data.specs.declared.style.Length.{Length}
use Rattle.box_data.specs.declared.style.SideLengths.{SideLengths}
use Rattle.box_data.specs.declared.style.SideAmounts.{SideAmounts}
use Rattle.box_data.specs.declared.style.BoxStyle.{BoxStyle}
use Rattle.box_data.specs.Styles.{resolved, is_length}
use Rattle.box_data.specs.declared.tree.BoxKind.{BoxKind as Kind}
use Rattle.box_data.specs.declared.tree.BoxKind.TheVariants.{Block as block_box, Anonymous as anonymous}
use Rattle.box_data.specs.declared.tree.BoxKind.TheVariants.{Container as container, ImageBlock as image_block}
use Rattle.box_data.specs.BoxTree.{Node, or_zero}
use Rattle.box_data.specs.declared.placed.ImageSize.{ImageSize as Size}
use Rattle.box_data.specs.declared.placed.Placed.{Placed}
use Rattle.box_data.specs.Widths.{Across, across_of, at_most, fixed, less, image_size, Place, spans_in, sizes_in, first_size}
use Rattle.box_data.specs.Widths.{gap_in, columns_in, line_width, images_in, sized, run_in}
use Rattle.box_places.specs.declared.place.ContainingBlock.{ContainingBlock}
use Rattle.box_places.specs.declared.place.Frame.{Frame}
use Rattle.box_places.specs.declared.across.Extent.{Extent}

-- ---- what the code holds, as widths speak of it

abbrev pub pieces_of : Option Runs → Option (List Piece)
pieces_of None = None
pieces_of (Some runs) = Some runs.pieces

abbrev pub run_of : Option Runs → List Piece
run_of runs = elim (pieces_of runs) as (λ r. List Piece) [ None ↦ [] | Some run ↦ run ]

-- a box of the list, as a box of the tree
abbrev pub node_of : BoxNode → Node
node_of node = record { element = node.element; kind = node.kind; run = pieces_of node.runs }

abbrev pub place_of : ContainingBlock → Place
place_of b = record {
  x = b.x;
  w = b.w;
  span_x = b.span_x;
  span_w = b.span_w;
  in_container = b.in_container;
  in_spanner = b.in_spanner;
}

abbrev pub block_of : Place → ContainingBlock
block_of p = record {
  x = p.x;
  w = p.w;
  span_x = p.span_x;
  span_w = p.span_w;
  in_container = p.in_container;
  in_spanner = p.in_spanner;
}

abbrev pub across_in : Extent → Across
across_in e = record { before = e.before; w = e.w; after = e.after }

-- ---- parts

abbrev pub used_sides : SideLengths → (whole : ℕ) → SideAmounts
used_sides lengths whole = record {
  top = or_zero (resolved lengths.top whole);
  right = or_zero (resolved lengths.right whole);
  bottom = or_zero (resolved lengths.bottom whole);
  left = or_zero (resolved lengths.left whole);
}

abbrev pub given_height : Length → (less_down : ℕ) → Option ℕ
given_height height less_down = if is_length height then less less_down (resolved height 0) else None

-- a box with this style, in this place
abbrev pub frame_in : BoxStyle → Place → Frame
frame_in s place =
    let spans = spans_in place s in
    let whole = if spans then place.span_w else place.w in
    record {
      style = s;
      spans = spans;
      x = if spans then place.span_x else place.x;
      whole = whole;
      padding = used_sides s.padding whole;
    }

-- border and padding, across and down
abbrev pub edges_of : Frame → ℕ
edges_of f = f.style.border.left + f.padding.left + f.padding.right + f.style.border.right

abbrev pub ends_of : Frame → ℕ
ends_of f = f.style.border.top + f.padding.top + f.padding.bottom + f.style.border.bottom

-- what `border-box` takes off
abbrev pub less_across : Frame → ℕ
less_across f = if f.style.border_box then edges_of f else 0

abbrev pub less_down : Frame → ℕ
less_down f = if f.style.border_box then ends_of f else 0

-- the width of a box that is no image
abbrev pub block_across : Frame → Across
block_across f =
    let before = resolved f.style.margin.left f.whole in
    let after = resolved f.style.margin.right f.whole in
    at_most f.whole (edges_of f) before after (less (less_across f) (resolved f.style.max_width f.whole))
    (across_of f.whole (edges_of f) before after (less (less_across f) (resolved f.style.width f.whole)))

-- the size of a block-level image
abbrev pub image_in : Frame → Size → Size
image_in f attributes = image_size f.style f.whole (less_across f) (less_down f) attributes.w attributes.h

-- and how wide one is with its margins
abbrev pub image_across : Frame → (w : ℕ) → Across
image_across f w = fixed f.whole (edges_of f) (resolved f.style.margin.left f.whole) (resolved f.style.margin.right f.whole) w

abbrev pub across_by : Kind → Frame → Size → Across
across_by kind f attributes = elim kind as (λ k. Across) [
  | block_box ↦ block_across f
  | anonymous ↦ block_across f
  | container ↦ block_across f
  | image_block ↦ image_across f (image_in f attributes).w
]

abbrev pub height_by : Kind → Frame → Size → ℕ
height_by kind f attributes = elim kind as (λ k. ℕ) [
  | block_box ↦ 0
  | anonymous ↦ 0
  | container ↦ or_zero (resolved f.style.height 0) - less_down f
  | image_block ↦ (image_in f attributes).h
]

-- the attributes of the first image in a box
abbrev pub attributes_of : Node → Size
attributes_of node = first_size (sizes_in (run_in node))

abbrev pub margin_of : Frame → Across → SideAmounts
margin_of f across = record {
  top = or_zero (resolved f.style.margin.top f.whole);
  right = across.after;
  bottom = or_zero (resolved f.style.margin.bottom f.whole);
  left = across.before;
}

-- a box that is as wide as this, in its place
abbrev pub placed_by : List BoxStyle → (parent : Option ℕ) → (number : ℕ) → Node → Frame → Across → (h : ℕ) → Placed
placed_by styles parent number node f across h = record {
  number = number;
  parent = parent;
  element = node.element;
  kind = node.kind;
  spans = f.spans;
  style = f.style;
  margin = margin_of f across;
  padding = f.padding;
  top = f.style.border.top + f.padding.top;
  bottom = f.style.border.bottom + f.padding.bottom;
  x = f.x + across.before;
  outer_w = f.style.border.left + f.padding.left + across.w + f.padding.right + f.style.border.right;
  content_x = f.x + across.before + (f.style.border.left + f.padding.left);
  w = across.w;
  h = h;
  gap = gap_in node.kind f.style across.w;
  columns = columns_in node.kind f.style across.w;
  images = images_in node.kind (map (sized styles (line_width node.kind f.style across.w)) (run_in node));
  lines = [];
}
