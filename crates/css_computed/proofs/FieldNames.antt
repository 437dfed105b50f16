-- The field of each property is the one that is named by it.
use Rattle.std.proofs.Common.{◌≡◌, refl}
use Rattle.css_values.specs.declared.declared.Property.{Property}
use Rattle.css_values.specs.declared.declared.Property.TheVariants as properties
use Rattle.css_computed.specs.declared.style.Computed.{Computed}
use Rattle.css_computed.specs.Styles.{field, style_by}

pub field_named : (value : Property → Computed) (property : Property) → field property (style_by value) ≡ value property
unfolding field
field_named value properties.Display = refl
field_named value properties.FontSize = refl
field_named value properties.FontFamily = refl
field_named value properties.FontWeight = refl
field_named value properties.FontStyle = refl
field_named value properties.LineHeight = refl
field_named value properties.WhiteSpace = refl
field_named value properties.Hyphens = refl
field_named value properties.TextAlign = refl
field_named value properties.Orphans = refl
field_named value properties.Widows = refl
field_named value properties.MarginTop = refl
field_named value properties.MarginRight = refl
field_named value properties.MarginBottom = refl
field_named value properties.MarginLeft = refl
field_named value properties.PaddingTop = refl
field_named value properties.PaddingRight = refl
field_named value properties.PaddingBottom = refl
field_named value properties.PaddingLeft = refl
field_named value properties.BorderTopWidth = refl
field_named value properties.BorderRightWidth = refl
field_named value properties.BorderBottomWidth = refl
field_named value properties.BorderLeftWidth = refl
field_named value properties.BorderTopStyle = refl
field_named value properties.BorderRightStyle = refl
field_named value properties.BorderBottomStyle = refl
field_named value properties.BorderLeftStyle = refl
field_named value properties.Width = refl
field_named value properties.MaxWidth = refl
field_named value properties.Height = refl
field_named value properties.BoxSizing = refl
field_named value properties.ColumnWidth = refl
field_named value properties.ColumnCount = refl
field_named value properties.ColumnGap = refl
field_named value properties.ColumnFill = refl
field_named value properties.ColumnSpan = refl
field_named value properties.BreakBefore = refl
field_named value properties.BreakAfter = refl
field_named value properties.BreakInside = refl
field_named value properties.BoxDecorationBreak = refl
