-- The keywords of values, and the units of lengths (CSS Values and Units 4, sections 6.1 and 6.2), in lower case.
use Rattle.std.specs.Prelude.{ℕ, List, codes}
use Rattle.css_values.specs.declared.keyword.Keyword.{Keyword}
use Rattle.css_values.specs.declared.keyword.Keyword.TheVariants.{All, Always, Auto, Avoid, AvoidColumn, AvoidPage, AvoidRegion}
use Rattle.css_values.specs.declared.keyword.Keyword.TheVariants.{Balance, BalanceAll, Baseline, Block, Bold, Bolder, BorderBox}
use Rattle.css_values.specs.declared.keyword.Keyword.TheVariants.{Center, Clone, Column, ContentBox, Dashed, Dotted, Double, End}
use Rattle.css_values.specs.declared.keyword.Keyword.TheVariants.{Groove, Hidden, HorizontalTb, Inline, Inset, Italic, Justify}
use Rattle.css_values.specs.declared.keyword.Keyword.TheVariants.{Large, Larger, Left, Lighter, ListItem, Ltr, Manual, Medium}
use Rattle.css_values.specs.declared.keyword.Keyword.TheVariants.{None, Normal, Nowrap, Oblique, Outset, Page, Pre, Recto, Region}
use Rattle.css_values.specs.declared.keyword.Keyword.TheVariants.{Relative, Ridge, Right, Slice, Small, Smaller, Solid, Start}
use Rattle.css_values.specs.declared.keyword.Keyword.TheVariants.{Static, Thick, Thin, Verso, Visible, XLarge, XSmall, XxLarge}
use Rattle.css_values.specs.declared.keyword.Keyword.TheVariants.{XxSmall}
use Rattle.css_values.specs.declared.keyword.Unit.{Unit as LengthUnit}
use Rattle.css_values.specs.declared.keyword.Unit.TheVariants.{Px, Em, Rem, Pt, Pc, In, Cm, Mm}

unfoldable pub keyword_text : Keyword → List ℕ
keyword_text All = codes "all"
keyword_text Always = codes "always"
keyword_text Auto = codes "auto"
keyword_text Avoid = codes "avoid"
keyword_text AvoidColumn = codes "avoid-column"
keyword_text AvoidPage = codes "avoid-page"
keyword_text AvoidRegion = codes "avoid-region"
keyword_text Balance = codes "balance"
keyword_text BalanceAll = codes "balance-all"
keyword_text Baseline = codes "baseline"
keyword_text Block = codes "block"
keyword_text Bold = codes "bold"
keyword_text Bolder = codes "bolder"
keyword_text BorderBox = codes "border-box"
keyword_text Center = codes "center"
keyword_text Clone = codes "clone"
keyword_text Column = codes "column"
keyword_text ContentBox = codes "content-box"
keyword_text Dashed = codes "dashed"
keyword_text Dotted = codes "dotted"
keyword_text Double = codes "double"
keyword_text End = codes "end"
keyword_text Groove = codes "groove"
keyword_text Hidden = codes "hidden"
keyword_text HorizontalTb = codes "horizontal-tb"
keyword_text Inline = codes "inline"
keyword_text Inset = codes "inset"
keyword_text Italic = codes "italic"
keyword_text Justify = codes "justify"
keyword_text Large = codes "large"
keyword_text Larger = codes "larger"
keyword_text Left = codes "left"
keyword_text Lighter = codes "lighter"
keyword_text ListItem = codes "list-item"
keyword_text Ltr = codes "ltr"
keyword_text Manual = codes "manual"
keyword_text Medium = codes "medium"
keyword_text None = codes "none"
keyword_text Normal = codes "normal"
keyword_text Nowrap = codes "nowrap"
keyword_text Oblique = codes "oblique"
keyword_text Outset = codes "outset"
keyword_text Page = codes "page"
keyword_text Pre = codes "pre"
keyword_text Recto = codes "recto"
keyword_text Region = codes "region"
keyword_text Relative = codes "relative"
keyword_text Ridge = codes "ridge"
keyword_text Right = codes "right"
keyword_text Slice = codes "slice"
keyword_text Small = codes "small"
keyword_text Smaller = codes "smaller"
keyword_text Solid = codes "solid"
keyword_text Start = codes "start"
keyword_text Static = codes "static"
keyword_text Thick = codes "thick"
keyword_text Thin = codes "thin"
keyword_text Verso = codes "verso"
keyword_text Visible = codes "visible"
keyword_text XLarge = codes "x-large"
keyword_text XSmall = codes "x-small"
keyword_text XxLarge = codes "xx-large"
keyword_text XxSmall = codes "xx-small"

abbrev pub unit_text : LengthUnit → List ℕ
unit_text Px = codes "px"
unit_text Em = codes "em"
unit_text Rem = codes "rem"
unit_text Pt = codes "pt"
unit_text Pc = codes "pc"
unit_text In = codes "in"
unit_text Cm = codes "cm"
unit_text Mm = codes "mm"
