-- The table of properties: what each value may be, and what it is taken as. A form is a keyword (`Is`), a keyword that is taken
-- as another (`As`), as a length or as a number in thousandths (`AsLength`, `AsNumber`), a length, a percentage or a number of 0
-- or more, a percentage that is taken as a keyword, a whole number from 1, a number from 1 to 1000 (`Weight`), a length or a
-- percentage with its sign, or the number 0. The keywords `inherit`, `initial` and `unset` are taken by every property besides.
use Rattle.std.specs.Prelude.{List, [], ◌∷◌}
use Rattle.css_values.specs.declared.declared.Property.{Property}
use Rattle.css_values.specs.declared.declared.Property.TheVariants as properties
use Rattle.css_values.specs.declared.name.Barred.{Barred}
use Rattle.css_values.specs.declared.name.Barred.TheVariants as barred
use Rattle.css_values.specs.declared.keyword.Keyword.TheVariants.{All, Always, Auto, Avoid, AvoidColumn, AvoidPage, AvoidRegion}
use Rattle.css_values.specs.declared.keyword.Keyword.TheVariants.{Balance, BalanceAll, Baseline, Block, Bold, Bolder, BorderBox}
use Rattle.css_values.specs.declared.keyword.Keyword.TheVariants.{Center, Clone, Column, ContentBox, Dashed, Dotted, Double, End}
use Rattle.css_values.specs.declared.keyword.Keyword.TheVariants.{Groove, Hidden, HorizontalTb, Inline, Inset, Italic, Justify}
use Rattle.css_values.specs.declared.keyword.Keyword.TheVariants.{Large, Larger, Left, Lighter, ListItem, Ltr, Manual, Medium}
use Rattle.css_values.specs.declared.keyword.Keyword.TheVariants.{None, Normal, Nowrap, Oblique, Outset, Page, Pre, Recto, Region}
use Rattle.css_values.specs.declared.keyword.Keyword.TheVariants.{Relative, Ridge, Right, Slice, Small, Smaller, Solid, Start}
use Rattle.css_values.specs.declared.keyword.Keyword.TheVariants.{Static, Thick, Thin, Verso, Visible, XLarge, XSmall, XxLarge}
use Rattle.css_values.specs.declared.keyword.Keyword.TheVariants.{XxSmall}
use Rattle.css_values.specs.declared.keyword.Unit.TheVariants.{Px, Em}
use Rattle.css_values.specs.declared.form.Form.{Form}
use Rattle.css_values.specs.declared.form.Form.TheVariants.{Is, As, AsLength, AsNumber, Length, Percent, PercentAs, Number, Whole}
use Rattle.css_values.specs.declared.form.Form.TheVariants.{Weight, SignedLength, SignedPercent, Zero}

-- a margin
abbrev pub margin : List Form
margin = SignedLength ∷ SignedPercent ∷ Is Auto ∷ []

-- a padding
abbrev pub padding : List Form
padding = Length ∷ Percent ∷ []

-- the width of a border
abbrev pub border_width : List Form
border_width = Length ∷ AsLength Thin 1000 Px ∷ AsLength Medium 3000 Px ∷ AsLength Thick 5000 Px ∷ []

-- the style of a border
abbrev pub border_style : List Form
border_style =
    Is None ∷ Is Hidden ∷ Is Dotted ∷ Is Dashed ∷ Is Solid ∷ Is Double ∷ Is Groove ∷ Is Ridge ∷ Is Inset ∷ Is Outset ∷ []

-- a gap
abbrev pub column_gap : List Form
column_gap = Is Normal ∷ Length ∷ Percent ∷ []

-- a break before or after a box
abbrev pub break_between : List Form
break_between =
    Is Auto ∷ Is Avoid ∷ As AvoidColumn Avoid ∷ Is Column ∷ As AvoidPage Auto ∷ As Page Auto ∷ As Left Auto ∷ As Right Auto
    ∷ As Recto Auto ∷ As Verso Auto ∷ As AvoidRegion Auto ∷ As Region Auto ∷ []

-- a width or a count of columns
abbrev pub columns : List Form
columns = Is Auto ∷ Length ∷ Whole ∷ []

-- a break before or after a box, by its older name
abbrev pub page_break : List Form
page_break = Is Auto ∷ Is Avoid ∷ As Always Auto ∷ As Left Auto ∷ As Right Auto ∷ []

-- breaks in a box, by their older name
abbrev pub page_break_inside : List Form
page_break_inside = Is Auto ∷ Is Avoid ∷ []

-- what the value of a property may be
unfoldable pub grammar_of : Property → List Form
-- CSS 2.1, section 9.2.4
grammar_of properties.Display = Is Inline ∷ Is Block ∷ Is ListItem ∷ Is None ∷ []
-- CSS 2.1, section 15.7
grammar_of properties.FontSize =
    Length ∷ Percent ∷ AsLength XxSmall 9000 Px ∷ AsLength XSmall 10000 Px ∷ AsLength Small 13000 Px
    ∷ AsLength Medium 16000 Px ∷ AsLength Large 18000 Px ∷ AsLength XLarge 24000 Px ∷ AsLength XxLarge 32000 Px
    ∷ AsLength Smaller 800 Em ∷ AsLength Larger 1200 Em ∷ []
-- CSS 2.1, section 15.3: a list of names, not of these forms
grammar_of properties.FontFamily = []
-- CSS Fonts 4, section 2.2
grammar_of properties.FontWeight = Is Normal ∷ Is Bold ∷ As Bolder Bold ∷ As Lighter Normal ∷ Weight ∷ []
-- CSS 2.1, section 15.4
grammar_of properties.FontStyle = Is Normal ∷ Is Italic ∷ As Oblique Italic ∷ []
-- CSS 2.1, section 10.8.1
grammar_of properties.LineHeight = AsNumber Normal 1200 ∷ Number ∷ Length ∷ Percent ∷ []
-- CSS 2.1, section 16.6
grammar_of properties.WhiteSpace = Is Normal ∷ Is Nowrap ∷ Is Pre ∷ []
-- CSS Text 3, section 5.4
grammar_of properties.Hyphens = Is Manual ∷ Is None ∷ As Auto Manual ∷ []
-- CSS Text 3, section 6.1
grammar_of properties.TextAlign = Is Left ∷ As Start Left ∷ As Justify Left ∷ Is Right ∷ As End Right ∷ Is Center ∷ []
-- CSS Fragmentation 3, section 3.3
grammar_of properties.Orphans = Whole ∷ []
grammar_of properties.Widows = Whole ∷ []
-- CSS 2.1, section 8.3
grammar_of properties.MarginTop = margin
grammar_of properties.MarginRight = margin
grammar_of properties.MarginBottom = margin
grammar_of properties.MarginLeft = margin
-- CSS 2.1, section 8.4
grammar_of properties.PaddingTop = padding
grammar_of properties.PaddingRight = padding
grammar_of properties.PaddingBottom = padding
grammar_of properties.PaddingLeft = padding
-- CSS 2.1, section 8.5.1
grammar_of properties.BorderTopWidth = border_width
grammar_of properties.BorderRightWidth = border_width
grammar_of properties.BorderBottomWidth = border_width
grammar_of properties.BorderLeftWidth = border_width
-- CSS 2.1, section 8.5.3
grammar_of properties.BorderTopStyle = border_style
grammar_of properties.BorderRightStyle = border_style
grammar_of properties.BorderBottomStyle = border_style
grammar_of properties.BorderLeftStyle = border_style
-- CSS 2.1, section 10.2
grammar_of properties.Width = Is Auto ∷ Length ∷ Percent ∷ []
-- CSS 2.1, section 10.4
grammar_of properties.MaxWidth = Is None ∷ Length ∷ Percent ∷ []
-- CSS 2.1, section 10.5
grammar_of properties.Height = Is Auto ∷ Length ∷ PercentAs Auto ∷ []
-- CSS Sizing 3, section 3.3
grammar_of properties.BoxSizing = Is ContentBox ∷ Is BorderBox ∷ []
-- CSS Multi-column Layout 1, section 3
grammar_of properties.ColumnWidth = Is Auto ∷ Length ∷ []
grammar_of properties.ColumnCount = Is Auto ∷ Whole ∷ []
-- CSS Box Alignment 3, section 8.1
grammar_of properties.ColumnGap = column_gap
-- CSS Multi-column Layout 1, sections 6 and 7
grammar_of properties.ColumnFill = Is Balance ∷ Is Auto ∷ Is BalanceAll ∷ []
grammar_of properties.ColumnSpan = Is None ∷ Is All ∷ []
-- CSS Fragmentation 3, section 3.1
grammar_of properties.BreakBefore = break_between
grammar_of properties.BreakAfter = break_between
-- CSS Fragmentation 3, section 3.2
grammar_of properties.BreakInside = Is Auto ∷ Is Avoid ∷ As AvoidColumn Avoid ∷ As AvoidPage Auto ∷ As AvoidRegion Auto ∷ []
-- CSS Fragmentation 3, section 5.4
grammar_of properties.BoxDecorationBreak = Is Slice ∷ Is Clone ∷ []

-- the values without effect of a property that isn't laid out
unfoldable pub harmless : Barred → List Form
harmless barred.Float = Is None ∷ []
harmless barred.Position = Is Static ∷ Is Relative ∷ []
harmless barred.Top = Is Auto ∷ Zero ∷ []
harmless barred.Right = Is Auto ∷ Zero ∷ []
harmless barred.Bottom = Is Auto ∷ Zero ∷ []
harmless barred.Left = Is Auto ∷ Zero ∷ []
harmless barred.Overflow = Is Visible ∷ []
harmless barred.OverflowX = Is Visible ∷ []
harmless barred.OverflowY = Is Visible ∷ []
harmless barred.WritingMode = Is HorizontalTb ∷ []
harmless barred.Direction = Is Ltr ∷ []
harmless barred.VerticalAlign = Is Baseline ∷ []
harmless barred.TextIndent = Zero ∷ []
harmless barred.TextTransform = Is None ∷ []
harmless barred.LetterSpacing = Is Normal ∷ Zero ∷ []
harmless barred.WordSpacing = Is Normal ∷ Zero ∷ []
harmless barred.MinWidth = Is Auto ∷ Zero ∷ []
harmless barred.MinHeight = Is Auto ∷ Zero ∷ []
harmless barred.MaxHeight = Is None ∷ []
harmless barred.Font = []
