-- The table of properties: the initial value of each, and whether a child takes its parent's value where nothing is set for it
-- ("Inherited"), as CSS gives them at the property's definition. A length is in units, 64 to a px; numbers are in thousandths.
use Rattle.std.specs.Prelude.{ℕ, ◌*◌, Bool, true, false, [], codes}
use Rattle.css_values.specs.declared.declared.Property.{Property}
use Rattle.css_values.specs.declared.declared.Property.TheVariants as properties
use Rattle.css_values.specs.Values.{thousandths}
use Rattle.css_computed.specs.declared.style.Computed.{Computed}
use Rattle.css_computed.specs.declared.style.Computed.TheVariants.{Word, Length, Number, Names}

pub record Row : Type 0 where
  pub initial : Computed
  pub inherited : Bool

abbrev pub row : Computed → Bool → Row
row value is_passed_on = record { initial = value; inherited = is_passed_on }

abbrev pub yes : Bool
yes = true

abbrev pub no : Bool
no = false

abbrev pub px : ℕ → Computed
px n = Length (n * 64)

abbrev pub number : ℕ → Computed
number n = Number (thousandths n)

unfoldable pub table : Property → Row
-- CSS 2.1, section 9.2.4
table properties.Display = row (Word (codes "inline")) no
-- CSS 2.1, sections 15.3 to 15.7: `medium` is 16px, and no family is named
table properties.FontSize = row (px 16) yes
table properties.FontFamily = row (Names []) yes
table properties.FontWeight = row (number 400000) yes
table properties.FontStyle = row (Word (codes "normal")) yes
-- CSS 2.1, section 10.8.1: `normal`, for which a number is left open there, is 1.2
table properties.LineHeight = row (number 1200) yes
-- CSS 2.1, section 16.6
table properties.WhiteSpace = row (Word (codes "normal")) yes
-- CSS Text 3, sections 5.4 and 6.1
table properties.Hyphens = row (Word (codes "manual")) yes
table properties.TextAlign = row (Word (codes "left")) yes
-- CSS Fragmentation 3, section 3.3
table properties.Orphans = row (number 2000) yes
table properties.Widows = row (number 2000) yes
-- CSS 2.1, sections 8.3 and 8.4
table properties.MarginTop = row (px 0) no
table properties.MarginRight = row (px 0) no
table properties.MarginBottom = row (px 0) no
table properties.MarginLeft = row (px 0) no
table properties.PaddingTop = row (px 0) no
table properties.PaddingRight = row (px 0) no
table properties.PaddingBottom = row (px 0) no
table properties.PaddingLeft = row (px 0) no
-- CSS 2.1, section 8.5.1: `medium` is 3px
table properties.BorderTopWidth = row (px 3) no
table properties.BorderRightWidth = row (px 3) no
table properties.BorderBottomWidth = row (px 3) no
table properties.BorderLeftWidth = row (px 3) no
-- CSS 2.1, section 8.5.3
table properties.BorderTopStyle = row (Word (codes "none")) no
table properties.BorderRightStyle = row (Word (codes "none")) no
table properties.BorderBottomStyle = row (Word (codes "none")) no
table properties.BorderLeftStyle = row (Word (codes "none")) no
-- CSS 2.1, sections 10.2, 10.4 and 10.5
table properties.Width = row (Word (codes "auto")) no
table properties.MaxWidth = row (Word (codes "none")) no
table properties.Height = row (Word (codes "auto")) no
-- CSS Sizing 3, section 3.3
table properties.BoxSizing = row (Word (codes "content-box")) no
-- CSS Multi-column Layout 1, section 3
table properties.ColumnWidth = row (Word (codes "auto")) no
table properties.ColumnCount = row (Word (codes "auto")) no
-- CSS Box Alignment 3, section 8.1
table properties.ColumnGap = row (Word (codes "normal")) no
-- CSS Multi-column Layout 1, sections 6 and 7
table properties.ColumnFill = row (Word (codes "balance")) no
table properties.ColumnSpan = row (Word (codes "none")) no
-- CSS Fragmentation 3, sections 3.1 and 3.2
table properties.BreakBefore = row (Word (codes "auto")) no
table properties.BreakAfter = row (Word (codes "auto")) no
table properties.BreakInside = row (Word (codes "auto")) no
-- CSS Fragmentation 3, section 5.4
table properties.BoxDecorationBreak = row (Word (codes "slice")) no
