-- Each name is known, and names one property.
use Rattle.std.proofs.Common.{◌≡◌, Some, refl}
use Rattle.css_values.specs.declared.declared.Property.{Property}
use Rattle.css_values.specs.declared.declared.Property.TheVariants as own
use Rattle.css_values.specs.declared.name.Shorthand.{Shorthand}
use Rattle.css_values.specs.declared.name.Shorthand.TheVariants as short
use Rattle.css_values.specs.declared.name.Barred.{Barred}
use Rattle.css_values.specs.declared.name.Barred.TheVariants as barred
use Rattle.css_values.specs.declared.name.Name.TheVariants.{Own, Short, Barred as Bars}
use Rattle.css_values.specs.Words.{same}
use Rattle.css_values.specs.Names.{property_name, shorthand_name, barred_name, property_named, shorthand_named, barred_named}
use Rattle.css_values.specs.Names.{named}

pub property_is_known : (name : Property) → named (property_name name) ≡ Some (Own name)
unfolding same property_name shorthand_name barred_name property_named shorthand_named barred_named
property_is_known own.Display = refl
property_is_known own.FontSize = refl
property_is_known own.FontFamily = refl
property_is_known own.FontWeight = refl
property_is_known own.FontStyle = refl
property_is_known own.LineHeight = refl
property_is_known own.WhiteSpace = refl
property_is_known own.Hyphens = refl
property_is_known own.TextAlign = refl
property_is_known own.Orphans = refl
property_is_known own.Widows = refl
property_is_known own.MarginTop = refl
property_is_known own.MarginRight = refl
property_is_known own.MarginBottom = refl
property_is_known own.MarginLeft = refl
property_is_known own.PaddingTop = refl
property_is_known own.PaddingRight = refl
property_is_known own.PaddingBottom = refl
property_is_known own.PaddingLeft = refl
property_is_known own.BorderTopWidth = refl
property_is_known own.BorderRightWidth = refl
property_is_known own.BorderBottomWidth = refl
property_is_known own.BorderLeftWidth = refl
property_is_known own.BorderTopStyle = refl
property_is_known own.BorderRightStyle = refl
property_is_known own.BorderBottomStyle = refl
property_is_known own.BorderLeftStyle = refl
property_is_known own.Width = refl
property_is_known own.MaxWidth = refl
property_is_known own.Height = refl
property_is_known own.BoxSizing = refl
property_is_known own.ColumnWidth = refl
property_is_known own.ColumnCount = refl
property_is_known own.ColumnGap = refl
property_is_known own.ColumnFill = refl
property_is_known own.ColumnSpan = refl
property_is_known own.BreakBefore = refl
property_is_known own.BreakAfter = refl
property_is_known own.BreakInside = refl
property_is_known own.BoxDecorationBreak = refl

pub shorthand_is_known : (name : Shorthand) → named (shorthand_name name) ≡ Some (Short name)
unfolding same property_name shorthand_name barred_name property_named shorthand_named barred_named
shorthand_is_known short.Margin = refl
shorthand_is_known short.Padding = refl
shorthand_is_known short.BorderWidth = refl
shorthand_is_known short.BorderStyle = refl
shorthand_is_known short.Border = refl
shorthand_is_known short.BorderTop = refl
shorthand_is_known short.BorderRight = refl
shorthand_is_known short.BorderBottom = refl
shorthand_is_known short.BorderLeft = refl
shorthand_is_known short.Columns = refl
shorthand_is_known short.Gap = refl
shorthand_is_known short.PageBreakBefore = refl
shorthand_is_known short.PageBreakAfter = refl
shorthand_is_known short.PageBreakInside = refl

pub barred_is_known : (name : Barred) → named (barred_name name) ≡ Some (Bars name)
unfolding same property_name shorthand_name barred_name property_named shorthand_named barred_named
barred_is_known barred.Float = refl
barred_is_known barred.Position = refl
barred_is_known barred.Top = refl
barred_is_known barred.Right = refl
barred_is_known barred.Bottom = refl
barred_is_known barred.Left = refl
barred_is_known barred.Overflow = refl
barred_is_known barred.OverflowX = refl
barred_is_known barred.OverflowY = refl
barred_is_known barred.WritingMode = refl
barred_is_known barred.Direction = refl
barred_is_known barred.VerticalAlign = refl
barred_is_known barred.TextIndent = refl
barred_is_known barred.TextTransform = refl
barred_is_known barred.LetterSpacing = refl
barred_is_known barred.WordSpacing = refl
barred_is_known barred.MinWidth = refl
barred_is_known barred.MinHeight = refl
barred_is_known barred.MaxHeight = refl
barred_is_known barred.Font = refl
