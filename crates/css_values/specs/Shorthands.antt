-- Shorthands: the properties that each sets, and the values that it gives them, in the same order.
use Rattle.std.specs.Prelude.{ℕ, ◌+◌, ◌-◌, Bool, true, false, ◌==◌, ◌||◌, not, if◌then◌else◌, List, [], ◌∷◌, codes, Option, Some}
use Rattle.std.specs.Prelude.{None, is_some, unwrap_or}
use Rattle.css_data.specs.declared.token.CssToken.{CssToken}
use Rattle.css_data.specs.declared.token.CssToken.TheVariants as tokens
use Rattle.css_values.specs.declared.declared.Property.{Property}
use Rattle.css_values.specs.declared.declared.Property.TheVariants.{MarginTop, MarginRight, MarginBottom, MarginLeft, PaddingTop}
use Rattle.css_values.specs.declared.declared.Property.TheVariants.{PaddingRight, PaddingBottom, PaddingLeft, BorderTopWidth}
use Rattle.css_values.specs.declared.declared.Property.TheVariants.{BorderRightWidth, BorderBottomWidth, BorderLeftWidth}
use Rattle.css_values.specs.declared.declared.Property.TheVariants.{BorderTopStyle, BorderRightStyle, BorderBottomStyle}
use Rattle.css_values.specs.declared.declared.Property.TheVariants.{BorderLeftStyle, ColumnWidth, ColumnCount, ColumnGap}
use Rattle.css_values.specs.declared.declared.Property.TheVariants.{BreakBefore, BreakAfter, BreakInside}
use Rattle.css_values.specs.declared.name.Shorthand.{Shorthand}
use Rattle.css_values.specs.declared.name.Shorthand.TheVariants.{Margin, Padding, BorderWidth, BorderStyle, Border, BorderTop}
use Rattle.css_values.specs.declared.name.Shorthand.TheVariants.{BorderRight, BorderBottom, BorderLeft, Columns, Gap}
use Rattle.css_values.specs.declared.name.Shorthand.TheVariants.{PageBreakBefore, PageBreakAfter, PageBreakInside}
use Rattle.css_values.specs.declared.keyword.Keyword.TheVariants.{Auto}
use Rattle.css_values.specs.declared.form.Form.{Form}
use Rattle.css_values.specs.declared.form.Simple.{Simple}
use Rattle.css_values.specs.declared.form.Simple.TheVariants.{Word, Length, Number, Initial}
use Rattle.css_values.specs.declared.border.Line.{Line}
use Rattle.css_values.specs.Words.{same}
use Rattle.css_values.specs.Options.{◌>>=◌}
use Rattle.css_values.specs.Values.{one_of, values_of, wide_at}
use Rattle.css_values.specs.Table.{margin, padding, border_width, border_style, column_gap, columns, page_break}
use Rattle.css_values.specs.Table.{page_break_inside}

-- the properties that a shorthand sets, in the order of the table
unfoldable pub longhands_of : Shorthand → List Property
longhands_of Margin = MarginTop ∷ MarginRight ∷ MarginBottom ∷ MarginLeft ∷ []
longhands_of Padding = PaddingTop ∷ PaddingRight ∷ PaddingBottom ∷ PaddingLeft ∷ []
longhands_of BorderWidth = BorderTopWidth ∷ BorderRightWidth ∷ BorderBottomWidth ∷ BorderLeftWidth ∷ []
longhands_of BorderStyle = BorderTopStyle ∷ BorderRightStyle ∷ BorderBottomStyle ∷ BorderLeftStyle ∷ []
longhands_of Border =
    BorderTopWidth ∷ BorderRightWidth ∷ BorderBottomWidth ∷ BorderLeftWidth ∷ BorderTopStyle ∷ BorderRightStyle
    ∷ BorderBottomStyle ∷ BorderLeftStyle ∷ []
longhands_of BorderTop = BorderTopWidth ∷ BorderTopStyle ∷ []
longhands_of BorderRight = BorderRightWidth ∷ BorderRightStyle ∷ []
longhands_of BorderBottom = BorderBottomWidth ∷ BorderBottomStyle ∷ []
longhands_of BorderLeft = BorderLeftWidth ∷ BorderLeftStyle ∷ []
longhands_of Columns = ColumnWidth ∷ ColumnCount ∷ []
longhands_of Gap = ColumnGap ∷ []
longhands_of PageBreakBefore = BreakBefore ∷ []
longhands_of PageBreakAfter = BreakAfter ∷ []
longhands_of PageBreakInside = BreakInside ∷ []

-- the values of the top, right, bottom and left side (CSS 2.1, section 8.3)
abbrev pub sides : List Simple → Option (List Simple)
sides (top ∷ []) = Some (top ∷ top ∷ top ∷ top ∷ [])
sides (top ∷ right ∷ []) = Some (top ∷ right ∷ top ∷ right ∷ [])
sides (top ∷ right ∷ bottom ∷ []) = Some (top ∷ right ∷ bottom ∷ right ∷ [])
sides (top ∷ right ∷ bottom ∷ left ∷ []) = Some (top ∷ right ∷ bottom ∷ left ∷ [])
sides _ = None

-- the one value
abbrev pub single : List Simple → Option (List Simple)
single (value ∷ []) = Some (value ∷ [])
single _ = None

-- of a gap between rows and one between columns the second, which is the first where one stands alone (CSS Box Alignment 3,
-- section 8.3)
abbrev pub last_gap : List Simple → Option (List Simple)
last_gap (both ∷ []) = Some (both ∷ [])
last_gap (rows ∷ columns ∷ []) = Some (columns ∷ [])
last_gap _ = None

abbrev pub length_or : Simple → Simple → Simple
length_or (Length value unit) other = Length value unit
length_or _ other = other

abbrev pub number_or : Simple → Simple → Simple
number_or (Number value) other = Number value
number_or _ other = other

-- not two lengths, and not two numbers
abbrev pub may_join : Simple → Simple → Bool
may_join (Length a u) (Length b v) = false
may_join (Number a) (Number b) = false
may_join _ _ = true

-- a width and a count in any order, either of which is `auto` where it is missing (CSS Multi-column Layout 1, section 3.3)
abbrev pub width_and_count : List Simple → Option (List Simple)
width_and_count (a ∷ []) = Some (length_or a (Word Auto) ∷ number_or a (Word Auto) ∷ [])
width_and_count (a ∷ b ∷ []) =
    if may_join a b then Some (length_or a (length_or b (Word Auto)) ∷ number_or a (number_or b (Word Auto)) ∷ []) else None
width_and_count _ = None

-- the functions that are colours (CSS Color 3, section 4.2)
unfoldable pub is_colour_function : List ℕ → Bool
is_colour_function name =
    same name (codes "rgb") || same name (codes "rgba") || same name (codes "hsl") || same name (codes "hsla")

abbrev pub is_colour : CssToken → Bool
is_colour (tokens.Ident text) = not (is_some (wide_at (tokens.Ident text)))
is_colour (tokens.Hash text) = true
is_colour (tokens.Function name) = is_colour_function name
is_colour _ = false

abbrev pub no_line : Line
no_line = record { width = None; style = None; colour = false }

-- a width, a style or a colour more, where there is none of its kind yet
abbrev pub with_width : Line → Simple → Option Line
with_width line value = if is_some line.width then None else Some (record line { width = Some value })

abbrev pub with_style : Line → Simple → Option Line
with_style line value = if is_some line.style then None else Some (record line { style = Some value })

abbrev pub with_colour : Line → Option Line
with_colour line = if line.colour then None else Some (record line { colour = true })

abbrev pub with_kind : Line → Option Simple → Option Simple → Bool → Option Line
with_kind line (Some width) style colour = with_width line width
with_kind line None (Some style) colour = with_style line style
with_kind line None None true = with_colour line
with_kind line None None false = None

unfoldable pub with_part : Line → CssToken → Option Line
with_part line token = with_kind line (one_of border_width token) (one_of border_style token) (is_colour token)

-- how many brackets are open after a token
abbrev pub open_after : ℕ → CssToken → ℕ
open_after n (tokens.Function name) = n + 1
open_after n (tokens.Delim ch) = if ch == 40 then n + 1 else (if ch == 41 then n - 1 else n)
open_after n _ = n

-- a border whose parts follow, where so many brackets of a colour are open: what stands in them is passed over
abbrev pub line_from : Line → ℕ → List CssToken → Option Line
line_from line n [] = if n == 0 then Some line else None
line_from line n (token ∷ rest) =
    if n == 0 then (with_part line token >>= λ more. line_from more (open_after 0 token) rest)
    else line_from line (open_after n token) rest

-- the widths and the styles of all four sides, or of one
abbrev pub spread : Bool → Simple → Simple → List Simple
spread true width style = width ∷ width ∷ width ∷ width ∷ style ∷ style ∷ style ∷ style ∷ []
spread false width style = width ∷ style ∷ []

-- what is missing is initial (CSS 2.1, section 8.5.4)
abbrev pub line_values : Bool → Line → Option (List Simple)
line_values all line =
    if is_some line.width || is_some line.style || line.colour
    then Some (spread all (unwrap_or line.width Initial) (unwrap_or line.style Initial))
    else None

-- a width, a style and a colour in any order, at most one of each, for all four sides or for one
unfoldable pub border : Bool → List CssToken → Option (List Simple)
border all tokens = line_from no_line 0 tokens >>= line_values all

abbrev pub one_value : List Form → List CssToken → Option (List Simple)
one_value forms tokens = values_of forms tokens >>= single

abbrev pub four_values : List Form → List CssToken → Option (List Simple)
four_values forms tokens = values_of forms tokens >>= sides

abbrev pub gap_values : List CssToken → Option (List Simple)
gap_values tokens = values_of column_gap tokens >>= last_gap

abbrev pub column_values : List CssToken → Option (List Simple)
column_values tokens = values_of columns tokens >>= width_and_count

-- the values that a shorthand gives to the properties that it sets
unfoldable pub shorthand_values : Shorthand → List CssToken → Option (List Simple)
shorthand_values Margin tokens = four_values margin tokens
shorthand_values Padding tokens = four_values padding tokens
shorthand_values BorderWidth tokens = four_values border_width tokens
shorthand_values BorderStyle tokens = four_values border_style tokens
shorthand_values Border tokens = border true tokens
shorthand_values BorderTop tokens = border false tokens
shorthand_values BorderRight tokens = border false tokens
shorthand_values BorderBottom tokens = border false tokens
shorthand_values BorderLeft tokens = border false tokens
shorthand_values Columns tokens = column_values tokens
shorthand_values Gap tokens = gap_values tokens
shorthand_values PageBreakBefore tokens = one_value page_break tokens
shorthand_values PageBreakAfter tokens = one_value page_break tokens
shorthand_values PageBreakInside tokens = one_value page_break_inside tokens
