-- What a declaration of a name is about: a property that has a value of its own, each property that a shorthand sets, or one that
-- isn't laid out. And the order of the two tables of properties.
use Rattle.std.specs.Prelude.{◌≡◌, ℕ, ◌+◌, List, [], ◌∷◌, ◌++◌, map, Option, Some, None, slice_get}
use Rattle.css_values.specs.declared.declared.Property.{Property}
use Rattle.css_values.specs.declared.declared.Property.TheVariants as own
use Rattle.css_values.specs.declared.name.Barred.{Barred}
use Rattle.css_values.specs.declared.name.Barred.TheVariants as barred
use Rattle.css_values.specs.declared.name.Name.{Name}
use Rattle.css_values.specs.declared.name.Name.TheVariants.{Own, Short, Barred as Bars}
use Rattle.css_values.specs.declared.target.Target.{Target}
use Rattle.css_values.specs.declared.target.Target.TheVariants.{Laid, Unlaid}
use Rattle.css_values.specs.Names.{named, properties, barred_properties}
use Rattle.css_values.specs.Shorthands.{longhands_of}

abbrev pub targets : Option Name → List Target
targets None = []
targets (Some (Own property)) = Laid property ∷ []
targets (Some (Short shorthand)) = map Laid (longhands_of shorthand)
targets (Some (Bars other)) = Unlaid other ∷ []

-- what a declaration of this name is about
abbrev pub targets_of : List ℕ → List Target
targets_of name = targets (named name)

-- the place of a property in the table of those that have a value of their own
unfoldable pub property_place : Property → ℕ
property_place own.Display = 0
property_place own.FontSize = 1
property_place own.FontFamily = 2
property_place own.FontWeight = 3
property_place own.FontStyle = 4
property_place own.LineHeight = 5
property_place own.WhiteSpace = 6
property_place own.Hyphens = 7
property_place own.TextAlign = 8
property_place own.Orphans = 9
property_place own.Widows = 10
property_place own.MarginTop = 11
property_place own.MarginRight = 12
property_place own.MarginBottom = 13
property_place own.MarginLeft = 14
property_place own.PaddingTop = 15
property_place own.PaddingRight = 16
property_place own.PaddingBottom = 17
property_place own.PaddingLeft = 18
property_place own.BorderTopWidth = 19
property_place own.BorderRightWidth = 20
property_place own.BorderBottomWidth = 21
property_place own.BorderLeftWidth = 22
property_place own.BorderTopStyle = 23
property_place own.BorderRightStyle = 24
property_place own.BorderBottomStyle = 25
property_place own.BorderLeftStyle = 26
property_place own.Width = 27
property_place own.MaxWidth = 28
property_place own.Height = 29
property_place own.BoxSizing = 30
property_place own.ColumnWidth = 31
property_place own.ColumnCount = 32
property_place own.ColumnGap = 33
property_place own.ColumnFill = 34
property_place own.ColumnSpan = 35
property_place own.BreakBefore = 36
property_place own.BreakAfter = 37
property_place own.BreakInside = 38
property_place own.BoxDecorationBreak = 39

-- and in the table of those that aren't laid out
unfoldable pub barred_place : Barred → ℕ
barred_place barred.Float = 0
barred_place barred.Position = 1
barred_place barred.Top = 2
barred_place barred.Right = 3
barred_place barred.Bottom = 4
barred_place barred.Left = 5
barred_place barred.Overflow = 6
barred_place barred.OverflowX = 7
barred_place barred.OverflowY = 8
barred_place barred.WritingMode = 9
barred_place barred.Direction = 10
barred_place barred.VerticalAlign = 11
barred_place barred.TextIndent = 12
barred_place barred.TextTransform = 13
barred_place barred.LetterSpacing = 14
barred_place barred.WordSpacing = 15
barred_place barred.MinWidth = 16
barred_place barred.MinHeight = 17
barred_place barred.MaxHeight = 18
barred_place barred.Font = 19

-- the place of a property in the two tables, the second after the first
abbrev pub target_place : Target → ℕ
target_place (Laid property) = property_place property
target_place (Unlaid other) = 40 + barred_place other

-- each property stands at its place
abbrev pub PlacesAreKnown : Type 0
PlacesAreKnown = (target : Target) → slice_get (map Laid properties ++ map Unlaid barred_properties) (target_place target)
    ≡ Some target
