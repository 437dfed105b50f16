-- Each property stands at its place in the two tables.
use Rattle.std.proofs.Common.{◌≡◌, ◌++◌, map, Some, refl}
use Rattle.std.specs.Prelude.{slice_get}
use Rattle.css_values.specs.declared.declared.Property.{Property}
use Rattle.css_values.specs.declared.declared.Property.TheVariants as own
use Rattle.css_values.specs.declared.name.Barred.{Barred}
use Rattle.css_values.specs.declared.name.Barred.TheVariants as barred
use Rattle.css_values.specs.declared.target.Target.TheVariants.{Laid, Unlaid}
use Rattle.css_values.specs.Names.{properties, barred_properties}
use Rattle.css_values.specs.Targets.{PlacesAreKnown, property_place, barred_place, target_place}

property_stands : (property : Property)
    → slice_get (map Laid properties ++ map Unlaid barred_properties) (property_place property) ≡ Some (Laid property)
unfolding property_place
property_stands own.Display = refl
property_stands own.FontSize = refl
property_stands own.FontFamily = refl
property_stands own.FontWeight = refl
property_stands own.FontStyle = refl
property_stands own.LineHeight = refl
property_stands own.WhiteSpace = refl
property_stands own.Hyphens = refl
property_stands own.TextAlign = refl
property_stands own.Orphans = refl
property_stands own.Widows = refl
property_stands own.MarginTop = refl
property_stands own.MarginRight = refl
property_stands own.MarginBottom = refl
property_stands own.MarginLeft = refl
property_stands own.PaddingTop = refl
property_stands own.PaddingRight = refl
property_stands own.PaddingBottom = refl
property_stands own.PaddingLeft = refl
property_stands own.BorderTopWidth = refl
property_stands own.BorderRightWidth = refl
property_stands own.BorderBottomWidth = refl
property_stands own.BorderLeftWidth = refl
property_stands own.BorderTopStyle = refl
property_stands own.BorderRightStyle = refl
property_stands own.BorderBottomStyle = refl
property_stands own.BorderLeftStyle = refl
property_stands own.Width = refl
property_stands own.MaxWidth = refl
property_stands own.Height = refl
property_stands own.BoxSizing = refl
property_stands own.ColumnWidth = refl
property_stands own.ColumnCount = refl
property_stands own.ColumnGap = refl
property_stands own.ColumnFill = refl
property_stands own.ColumnSpan = refl
property_stands own.BreakBefore = refl
property_stands own.BreakAfter = refl
property_stands own.BreakInside = refl
property_stands own.BoxDecorationBreak = refl

barred_stands : (other : Barred) → slice_get (map Laid properties ++ map Unlaid barred_properties) (target_place (Unlaid other))
    ≡ Some (Unlaid other)
unfolding barred_place
barred_stands barred.Float = refl
barred_stands barred.Position = refl
barred_stands barred.Top = refl
barred_stands barred.Right = refl
barred_stands barred.Bottom = refl
barred_stands barred.Left = refl
barred_stands barred.Overflow = refl
barred_stands barred.OverflowX = refl
barred_stands barred.OverflowY = refl
barred_stands barred.WritingMode = refl
barred_stands barred.Direction = refl
barred_stands barred.VerticalAlign = refl
barred_stands barred.TextIndent = refl
barred_stands barred.TextTransform = refl
barred_stands barred.LetterSpacing = refl
barred_stands barred.WordSpacing = refl
barred_stands barred.MinWidth = refl
barred_stands barred.MinHeight = refl
barred_stands barred.MaxHeight = refl
barred_stands barred.Font = refl

pub places_known : PlacesAreKnown
places_known (Laid property) = property_stands property
places_known (Unlaid other) = barred_stands other
