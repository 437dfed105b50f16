-- What the computed style of an element says of its box.
use Rattle.std.specs.Prelude.{ℕ, ◌*◌, ◌/◌, ◌^◌, ◌-◌, min, max, Bool, false, List, map, Option, Some, None, codes, if◌then◌else◌}
use Rattle.std.specs.Str.{bytes_eq}
use Rattle.mc_base.specs.declared.decimal.Decimal.{Decimal}
use Rattle.mc_base.specs.declared.refusal.ConstructName.{ConstructName}
use Rattle.break_rules.specs.declared.seam.BreakValue.{BreakValue}
use Rattle.break_rules.specs.declared.seam.BreakValue.TheVariants as breaks
use Rattle.css_computed.specs.declared.style.Computed.{Computed}
use Rattle.css_computed.specs.declared.style.Computed.TheVariants as computed
use Rattle.css_computed.specs.declared.style.Style.{Style}
use Rattle.css_cascade.specs.declared.styles.NodeStyle.{NodeStyle}
use Rattle.box_data.specs.declared.style.Length.{Length}
use Rattle.box_data.specs.declared.style.Length.TheVariants.{Auto as auto, Units as units, Percent as percent}
use Rattle.box_data.specs.declared.style.Display.{Display}
use Rattle.box_data.specs.declared.style.Display.TheVariants.{Hidden as hidden, Inline as inline, Block as block}
use Rattle.box_data.specs.declared.style.Align.{Align}
use Rattle.box_data.specs.declared.style.Align.TheVariants.{Left as left, Right as right, Center as center}
use Rattle.box_data.specs.declared.style.SideLengths.{SideLengths}
use Rattle.box_data.specs.declared.style.SideAmounts.{SideAmounts}
use Rattle.box_data.specs.declared.style.BoxStyle.{BoxStyle}
use Rattle.box_data.specs.Styles.{initial, capped}

-- ---- what the values say

-- the value is this word
abbrev pub is_word : List ℕ → Computed → Bool
is_word word (computed.Word name) = bytes_eq name word
is_word word (computed.Length u) = false
is_word word (computed.Percent value) = false
is_word word (computed.Number value) = false
is_word word (computed.Names names) = false

-- a length in units; no length is 0
abbrev pub amount_of : Computed → ℕ
amount_of (computed.Word name) = 0
amount_of (computed.Length u) = u
amount_of (computed.Percent value) = 0
amount_of (computed.Number value) = 0
amount_of (computed.Names names) = 0

abbrev pub length_of : Computed → Length
length_of (computed.Word name) = auto
length_of (computed.Length u) = units u
length_of (computed.Percent value) = percent value.billionths
length_of (computed.Number value) = auto
length_of (computed.Names names) = auto

-- the whole part of a number, as far as 32 bits hold it
abbrev pub whole_of : Decimal → ℕ
whole_of value = min (value.billionths / 10 ^ 9) (2 ^ 32 - 1)

-- the count of lines of `orphans` and `widows`, at least 1
abbrev pub count_of : Computed → ℕ
count_of (computed.Word name) = 1
count_of (computed.Length u) = 1
count_of (computed.Percent value) = 1
count_of (computed.Number value) = max 1 (whole_of value)
count_of (computed.Names names) = 1

-- a count of columns, at least 1; `auto` is none
abbrev pub column_count_of : Computed → Option ℕ
column_count_of (computed.Word name) = None
column_count_of (computed.Length u) = None
column_count_of (computed.Percent value) = None
column_count_of (computed.Number value) = Some (max 1 (whole_of value))
column_count_of (computed.Names names) = None

abbrev pub column_width_of : Computed → Option ℕ
column_width_of (computed.Word name) = None
column_width_of (computed.Length u) = Some u
column_width_of (computed.Percent value) = None
column_width_of (computed.Number value) = None
column_width_of (computed.Names names) = None

-- a line height: a length, or a number of times the font size (CSS 2.1, section 10.8.1)
abbrev pub line_of : Computed → (size : ℕ) → ℕ
line_of (computed.Word name) size = capped size
line_of (computed.Length u) size = capped u
line_of (computed.Percent value) size = capped size
line_of (computed.Number value) size = capped (value.billionths * size / 10 ^ 9)
line_of (computed.Names names) size = capped size

-- `none` makes no box, `block` and `list-item` block-level ones (CSS 2.1, section 9.2)
abbrev pub display_of : Computed → Display
display_of value =
    if is_word (codes "none") value then hidden else
    if is_word (codes "block") value then block else
    if is_word (codes "list-item") value then block else inline

abbrev pub align_of : Computed → Align
align_of value = if is_word (codes "right") value then right else if is_word (codes "center") value then center else left

abbrev pub break_of : Computed → BreakValue
break_of value =
    if is_word (codes "avoid") value then breaks.Avoid else if is_word (codes "column") value then breaks.Column else breaks.Auto

-- ---- the style of a box

abbrev pub margin_of : Style → SideLengths
margin_of s = record {
  top = length_of s.margin_top;
  right = length_of s.margin_right;
  bottom = length_of s.margin_bottom;
  left = length_of s.margin_left;
}

abbrev pub border_of : Style → SideAmounts
border_of s = record {
  top = amount_of s.border_top_width;
  right = amount_of s.border_right_width;
  bottom = amount_of s.border_bottom_width;
  left = amount_of s.border_left_width;
}

abbrev pub padding_of : Style → SideLengths
padding_of s = record {
  top = length_of s.padding_top;
  right = length_of s.padding_right;
  bottom = length_of s.padding_bottom;
  left = length_of s.padding_left;
}

-- with this first winning declaration that isn't laid out
unfoldable pub box_style_of : Style → Option ConstructName → BoxStyle
box_style_of s refused = record {
  display = display_of s.display;
  size = amount_of s.font_size;
  line = line_of s.line_height (amount_of s.font_size);
  wrap = is_word (codes "normal") s.white_space;
  keep = is_word (codes "pre") s.white_space;
  hyphens = is_word (codes "manual") s.hyphens;
  align = align_of s.text_align;
  orphans = count_of s.orphans;
  widows = count_of s.widows;
  margin = margin_of s;
  border = border_of s;
  padding = padding_of s;
  width = length_of s.width;
  max_width = length_of s.max_width;
  height = length_of s.height;
  border_box = is_word (codes "border-box") s.box_sizing;
  column_count = column_count_of s.column_count;
  column_width = column_width_of s.column_width;
  column_gap = length_of s.column_gap;
  fill_auto = is_word (codes "auto") s.column_fill;
  span_all = is_word (codes "all") s.column_span;
  break_before = break_of s.break_before;
  break_after = break_of s.break_after;
  avoid_inside = is_word (codes "avoid") s.break_inside;
  cloned = is_word (codes "clone") s.box_decoration_break;
  refused = refused;
}

-- ---- the styles of a document's nodes, of which only elements have one that counts

abbrev pub entry_style : Option NodeStyle → BoxStyle
entry_style None = initial
entry_style (Some entry) = box_style_of entry.style entry.refused

abbrev pub styles_in : List (Option NodeStyle) → List BoxStyle
styles_in entries = map entry_style entries
