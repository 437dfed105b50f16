-- A style has one field for each property of the table, named by it with `_` for `-`.
use Rattle.std.specs.Prelude.{◌≡◌}
use Rattle.css_values.specs.declared.declared.Property.{Property}
use Rattle.css_values.specs.declared.declared.Property.TheVariants as properties
use Rattle.css_computed.specs.declared.style.Computed.{Computed}
use Rattle.css_computed.specs.declared.style.Style.{Style}

-- the field of a property
unfoldable pub field : Property → Style → Computed
field properties.Display style = style.display
field properties.FontSize style = style.font_size
field properties.FontFamily style = style.font_family
field properties.FontWeight style = style.font_weight
field properties.FontStyle style = style.font_style
field properties.LineHeight style = style.line_height
field properties.WhiteSpace style = style.white_space
field properties.Hyphens style = style.hyphens
field properties.TextAlign style = style.text_align
field properties.Orphans style = style.orphans
field properties.Widows style = style.widows
field properties.MarginTop style = style.margin_top
field properties.MarginRight style = style.margin_right
field properties.MarginBottom style = style.margin_bottom
field properties.MarginLeft style = style.margin_left
field properties.PaddingTop style = style.padding_top
field properties.PaddingRight style = style.padding_right
field properties.PaddingBottom style = style.padding_bottom
field properties.PaddingLeft style = style.padding_left
field properties.BorderTopWidth style = style.border_top_width
field properties.BorderRightWidth style = style.border_right_width
field properties.BorderBottomWidth style = style.border_bottom_width
field properties.BorderLeftWidth style = style.border_left_width
field properties.BorderTopStyle style = style.border_top_style
field properties.BorderRightStyle style = style.border_right_style
field properties.BorderBottomStyle style = style.border_bottom_style
field properties.BorderLeftStyle style = style.border_left_style
field properties.Width style = style.width
field properties.MaxWidth style = style.max_width
field properties.Height style = style.height
field properties.BoxSizing style = style.box_sizing
field properties.ColumnWidth style = style.column_width
field properties.ColumnCount style = style.column_count
field properties.ColumnGap style = style.column_gap
field properties.ColumnFill style = style.column_fill
field properties.ColumnSpan style = style.column_span
field properties.BreakBefore style = style.break_before
field properties.BreakAfter style = style.break_after
field properties.BreakInside style = style.break_inside
field properties.BoxDecorationBreak style = style.box_decoration_break

-- the style that has these values
abbrev pub style_by : (Property → Computed) → Style
style_by value = record {
  display = value properties.Display;
  font_size = value properties.FontSize;
  font_family = value properties.FontFamily;
  font_weight = value properties.FontWeight;
  font_style = value properties.FontStyle;
  line_height = value properties.LineHeight;
  white_space = value properties.WhiteSpace;
  hyphens = value properties.Hyphens;
  text_align = value properties.TextAlign;
  orphans = value properties.Orphans;
  widows = value properties.Widows;
  margin_top = value properties.MarginTop;
  margin_right = value properties.MarginRight;
  margin_bottom = value properties.MarginBottom;
  margin_left = value properties.MarginLeft;
  padding_top = value properties.PaddingTop;
  padding_right = value properties.PaddingRight;
  padding_bottom = value properties.PaddingBottom;
  padding_left = value properties.PaddingLeft;
  border_top_width = value properties.BorderTopWidth;
  border_right_width = value properties.BorderRightWidth;
  border_bottom_width = value properties.BorderBottomWidth;
  border_left_width = value properties.BorderLeftWidth;
  border_top_style = value properties.BorderTopStyle;
  border_right_style = value properties.BorderRightStyle;
  border_bottom_style = value properties.BorderBottomStyle;
  border_left_style = value properties.BorderLeftStyle;
  width = value properties.Width;
  max_width = value properties.MaxWidth;
  height = value properties.Height;
  box_sizing = value properties.BoxSizing;
  column_width = value properties.ColumnWidth;
  column_count = value properties.ColumnCount;
  column_gap = value properties.ColumnGap;
  column_fill = value properties.ColumnFill;
  column_span = value properties.ColumnSpan;
  break_before = value properties.BreakBefore;
  break_after = value properties.BreakAfter;
  break_inside = value properties.BreakInside;
  box_decoration_break = value properties.BoxDecorationBreak;
}

-- the field of each property in the style that has these values is the property's value
abbrev pub FieldsAreNamed : Type 0
FieldsAreNamed = (value : Property → Computed) (property : Property) → field property (style_by value) ≡ value property
