-- How wide the pieces of a run are, and how high a line is (CSS 2.1, sections 10.3.2, 10.8.1 and 16.6.1).
use Rattle.std.specs.Prelude.{ℕ, ℤ, pos, ◌+ℤ◌, ◌-ℤ◌, ◌+◌, Bool, false, ◌||◌, ◌==◌, if◌then◌else◌, List, [], ◌∷◌, slice_index_or}
use Rattle.std.specs.Int.{int_max, int_div_euclid}
use Rattle.font_table.specs.declared.fonts.Face.{Face}
use Rattle.font_table.specs.Choice.{face_of, advance_of, scaled}
use Rattle.inline_text.specs.declared.content.Piece.{Piece}
use Rattle.inline_text.specs.declared.content.Piece.TheVariants.{Char, Image, Forced, Chance}
use Rattle.inline_text.specs.declared.content.RunStyle.{RunStyle}
use Rattle.inline_text.specs.Opportunities.{is_collapsed_space, is_soft_hyphen}

abbrev pub no_style : RunStyle
no_style = record { face = 0; size = 0; line = 0; wrap = false; keep = false; hyphens = false }

-- the style of this number
abbrev pub style_of : List RunStyle → ℕ → RunStyle
style_of styles number = slice_index_or styles number no_style

-- ---- widths

abbrev pub advance_in : RunStyle → List Face → ℕ → ℕ
advance_in style faces ch = scaled (advance_of (face_of faces style.face) ch) style.size

-- U+200B and U+00AD, which have no advance
abbrev pub is_invisible : ℕ → Bool
is_invisible ch = ch == 0x200b || ch == 0xad

abbrev pub width_of : List RunStyle → List Face → Piece → ℕ
width_of styles faces (Char ch style) = if is_invisible ch then 0 else advance_in (style_of styles style) faces ch
width_of styles faces (Image w h style) = w
width_of styles faces Forced = 0
width_of styles faces Chance = 0

abbrev pub width_sum : List RunStyle → List Face → List Piece → ℕ
width_sum styles faces [] = 0
width_sum styles faces (piece ∷ pieces) = width_of styles faces piece + width_sum styles faces pieces

-- a collapsed space's width where that piece is one, or else 0; forced breaks and `wbr` are looked through
abbrev pub space_behind : List RunStyle → List Face → (so_far : ℕ) → Piece → ℕ
space_behind styles faces so_far (Char ch style) =
    if is_collapsed_space styles (Char ch style) then width_of styles faces (Char ch style) else 0
space_behind styles faces so_far (Image w h style) = 0
space_behind styles faces so_far Forced = so_far
space_behind styles faces so_far Chance = so_far

-- the width of the collapsed space that stands last
abbrev pub last_space : List RunStyle → List Face → (so_far : ℕ) → List Piece → ℕ
last_space styles faces so_far [] = so_far
last_space styles faces so_far (piece ∷ pieces) = last_space styles faces (space_behind styles faces so_far piece) pieces

-- the advance of `-` in the style of a soft hyphen
abbrev pub hyphen_of : List RunStyle → List Face → Piece → ℕ
hyphen_of styles faces (Char ch style) = if is_soft_hyphen styles (Char ch style) then advance_in (style_of styles style) faces 45
    else 0
hyphen_of styles faces (Image w h style) = 0
hyphen_of styles faces Forced = 0
hyphen_of styles faces Chance = 0

-- the hyphen of the last piece
abbrev pub last_hyphen : List RunStyle → List Face → (so_far : ℕ) → List Piece → ℕ
last_hyphen styles faces so_far [] = so_far
last_hyphen styles faces so_far (piece ∷ pieces) = last_hyphen styles faces (hyphen_of styles faces piece) pieces

-- ---- heights

-- a face's ascent, and half of what the line height leaves beside ascent and descent, rounded down
abbrev pub above_of : List Face → RunStyle → ℤ
above_of faces style =
    let face = face_of faces style.face in
    let ascent = scaled face.ascent style.size in
    let descent = scaled face.descent style.size in
    pos ascent +ℤ int_div_euclid (pos style.line -ℤ pos ascent -ℤ pos descent) (pos 2)

-- the rest of the line height
abbrev pub below_of : List Face → RunStyle → ℤ
below_of faces style = pos style.line -ℤ above_of faces style

-- what a piece has above and below the baseline, or what is there already where that is more
abbrev pub above_with : List RunStyle → List Face → ℤ → Piece → ℤ
above_with styles faces above (Char ch style) = int_max above (above_of faces (style_of styles style))
above_with styles faces above (Image w h style) = int_max above (pos h)
above_with styles faces above Forced = above
above_with styles faces above Chance = above

abbrev pub below_with : List RunStyle → List Face → ℤ → Piece → ℤ
below_with styles faces below (Char ch style) = int_max below (below_of faces (style_of styles style))
below_with styles faces below (Image w h style) = int_max below (pos 0)
below_with styles faces below Forced = below
below_with styles faces below Chance = below

abbrev pub greatest_above : List RunStyle → List Face → ℤ → List Piece → ℤ
greatest_above styles faces above [] = above
greatest_above styles faces above (piece ∷ pieces) = greatest_above styles faces (above_with styles faces above piece) pieces

abbrev pub greatest_below : List RunStyle → List Face → ℤ → List Piece → ℤ
greatest_below styles faces below [] = below
greatest_below styles faces below (piece ∷ pieces) = greatest_below styles faces (below_with styles faces below piece) pieces
