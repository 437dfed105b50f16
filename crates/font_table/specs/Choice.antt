-- Which face a style asks for, and how wide a character is in it.
use Rattle.std.specs.Prelude.{ℕ, ◌*◌, ◌/◌, Bool, true, false, ◌&&◌, not, nat_le, ◌==◌, if◌then◌else◌, List, [], ◌∷◌}
use Rattle.std.specs.Prelude.{slice_index_or, Option, Some, None, unwrap_or}
use Rattle.std.specs.Option.{option_map}
use Rattle.std.specs.List.{position}
use Rattle.std.specs.Char.{to_ascii_lowercase}
use Rattle.font_table.specs.declared.fonts.Advance.{Advance}
use Rattle.font_table.specs.declared.fonts.Face.{Face}

-- a byte of a family's name as a table spells it: a blank counts as `-`, and case doesn't count
abbrev pub family_byte : ℕ → ℕ
family_byte b = to_ascii_lowercase (if b == 32 then 45 else b)

abbrev pub is_named : List ℕ → List ℕ → Bool
is_named [] [] = true
is_named [] (n ∷ name) = false
is_named (b ∷ family) [] = false
is_named (b ∷ family) (n ∷ name) = (family_byte b == to_ascii_lowercase n) && is_named family name

-- the face is of the family
abbrev pub is_of : List ℕ → Face → Bool
is_of family face = is_named family face.name

abbrev pub same : Bool → Bool → Bool
same true b = b
same false b = not b

-- the face has this style, and a weight of at least 600 exactly where this one is
abbrev pub is_like : ℕ → Bool → Face → Bool
is_like weight italic face = same face.italic italic && same (nat_le 600 face.weight) (nat_le 600 weight)

-- in a family the first face that is like the asked one, else the first
abbrev pub in_family : List Face → List ℕ → ℕ → Bool → Option ℕ
in_family faces family weight italic =
    option_map (λ first. unwrap_or (position (λ face. is_of family face && is_like weight italic face) faces) first)
    (position (is_of family) faces)

-- the face of the first family that the table has, and without such a family the table's first face
abbrev pub chosen : List Face → List (List ℕ) → ℕ → Bool → ℕ
chosen faces [] weight italic = 0
chosen faces (family ∷ families) weight italic =
    unwrap_or (in_family faces family weight italic) (chosen faces families weight italic)

-- ---- lengths

abbrev pub no_face : Face
no_face = record { name = []; weight = 0; italic = false; ascent = 0; descent = 0; default_advance = 0; advances = [] }

-- the face of this number
abbrev pub face_of : List Face → ℕ → Face
face_of faces number = slice_index_or faces number no_face

-- the advance that is the character's own
abbrev pub own_advance : List Advance → ℕ → Option ℕ
own_advance [] ch = None
own_advance (a ∷ more) ch = if a.ch == ch then Some a.amount else own_advance more ch

-- in thousandths of the font size
abbrev pub advance_of : Face → ℕ → ℕ
advance_of face ch = unwrap_or (own_advance face.advances ch) face.default_advance

-- so many thousandths of a size, rounded down
abbrev pub scaled : ℕ → ℕ → ℕ
scaled thousandths size = thousandths * size / 1000
