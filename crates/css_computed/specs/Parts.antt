-- The values of a style in groups, as they are made.
use Rattle.std.specs.Option.{option_copied}
use Rattle.css_values.specs.declared.declared.Property.{Property}
use Rattle.css_values.specs.declared.declared.Property.TheVariants as properties
use Rattle.css_computed.specs.declared.style.Computed.{Computed}
use Rattle.css_computed.specs.declared.parts.Sides.{Sides}
use Rattle.css_computed.specs.declared.parts.TextPart.{TextPart}
use Rattle.css_computed.specs.declared.parts.BoxPart.{BoxPart}
use Rattle.css_computed.specs.declared.parts.ColumnPart.{ColumnPart}
use Rattle.css_computed.specs.declared.parts.Element.{Element}
use Rattle.css_computed.specs.Computing.{value_of, width_beside}

-- the value of a property of an element, but for its font size and the widths of its borders
abbrev pub value_in : Element → Property → Computed
value_in element property = value_of element.winning.now (option_copied element.parent) element.sizes property

abbrev pub margins_by : (Property → Computed) → Sides
margins_by value = record {
  top = value properties.MarginTop;
  right = value properties.MarginRight;
  bottom = value properties.MarginBottom;
  left = value properties.MarginLeft;
}

abbrev pub paddings_by : (Property → Computed) → Sides
paddings_by value = record {
  top = value properties.PaddingTop;
  right = value properties.PaddingRight;
  bottom = value properties.PaddingBottom;
  left = value properties.PaddingLeft;
}

abbrev pub lines_by : (Property → Computed) → Sides
lines_by value = record {
  top = value properties.BorderTopStyle;
  right = value properties.BorderRightStyle;
  bottom = value properties.BorderBottomStyle;
  left = value properties.BorderLeftStyle;
}

abbrev pub widths_by : (Property → Computed) → Sides
widths_by value = record {
  top = value properties.BorderTopWidth;
  right = value properties.BorderRightWidth;
  bottom = value properties.BorderBottomWidth;
  left = value properties.BorderLeftWidth;
}

-- the widths of borders, each beside its style
abbrev pub widths_beside : Sides → Sides → Sides
widths_beside styles widths = record {
  top = width_beside styles.top widths.top;
  right = width_beside styles.right widths.right;
  bottom = width_beside styles.bottom widths.bottom;
  left = width_beside styles.left widths.left;
}

abbrev pub text_by : (Property → Computed) → TextPart
text_by value = record {
  font_family = value properties.FontFamily;
  font_weight = value properties.FontWeight;
  font_style = value properties.FontStyle;
  line_height = value properties.LineHeight;
  white_space = value properties.WhiteSpace;
  hyphens = value properties.Hyphens;
  text_align = value properties.TextAlign;
  orphans = value properties.Orphans;
  widows = value properties.Widows;
}

abbrev pub boxes_by : (Property → Computed) → BoxPart
boxes_by value = record {
  display = value properties.Display;
  width = value properties.Width;
  max_width = value properties.MaxWidth;
  height = value properties.Height;
  box_sizing = value properties.BoxSizing;
  box_decoration_break = value properties.BoxDecorationBreak;
}

abbrev pub columns_by : (Property → Computed) → ColumnPart
columns_by value = record {
  column_width = value properties.ColumnWidth;
  column_count = value properties.ColumnCount;
  column_gap = value properties.ColumnGap;
  column_fill = value properties.ColumnFill;
  column_span = value properties.ColumnSpan;
  break_before = value properties.BreakBefore;
  break_after = value properties.BreakAfter;
  break_inside = value properties.BreakInside;
}
