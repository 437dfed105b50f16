-- Metrics tables: the lines, what a line means, what a table of faces is spelled by, and the first fault of a text that
-- is no table. The format is this project's own.
use Rattle.std.specs.Prelude.{◌≡◌, ◌≢◌, ℕ, ◌+◌, ◌<◌, ◌≤◌, Bool, true, false, IsTrue, ◌⊎◌, ◌&&◌, ◌||◌, nat_le, ◌==◌, List, [], ◌∷◌}
use Rattle.std.specs.Prelude.{◌++◌, length, slice_index, codes}
use Rattle.std.specs.List.{AllByRecursion, list_all}
use Rattle.std.specs.Char.{IsScalar}
use Rattle.mc_base.specs.SoundText.{sound_len}
use Rattle.std.specs.Str.Parse.{digits_value}
use Rattle.font_table.specs.declared.fonts.Advance.{Advance}
use Rattle.font_table.specs.declared.fonts.Face.{Face}

-- ---- lines

-- a byte that a line may have: from space to `~`
abbrev pub is_plain : ℕ → Bool
is_plain b = nat_le 32 b && nat_le b 126

abbrev pub IsLine : List ℕ → Type 0
IsLine line = IsTrue (list_all is_plain line)

-- lines, each with a line feed at its end
abbrev pub text_of : List (List ℕ) → List ℕ
text_of [] = []
text_of (line ∷ lines) = line ++ 10 ∷ text_of lines

-- two texts with a space between
abbrev pub spaced : List ℕ → List ℕ → List ℕ
spaced first rest = first ++ 32 ∷ rest

-- ---- the words of a line

abbrev pub is_digit : ℕ → Bool
is_digit b = nat_le 48 b && nat_le b 57

-- a digit, or a letter from `A` to `F`
abbrev pub is_hex_digit : ℕ → Bool
is_hex_digit b = is_digit b || (nat_le 65 b && nat_le b 70)

-- a letter, a digit or `-`
abbrev pub is_name_byte : ℕ → Bool
is_name_byte b = is_digit b || ((b == 45) || ((nat_le 65 b && nat_le b 90) || (nat_le 97 b && nat_le b 122)))

-- one digit or more, leading zeros among them or not, and the number that they write
pub record IsDecimal (digits : List ℕ) (n : ℕ) : Type 0 where
  pub filled : 0 < length digits
  pub digits_only : IsTrue (list_all is_digit digits)
  pub value : n ≡ digits_value 10 digits

-- the code of a character in upper-case hexadecimal, without leading zeros
pub record IsCode (digits : List ℕ) (n : ℕ) : Type 0 where
  pub filled : 0 < length digits
  pub digits_only : IsTrue (list_all is_hex_digit digits)
  pub shortest : slice_index digits 0 ≡ 48 → length digits ≡ 1
  pub value : n ≡ digits_value 16 digits
  pub scalar : IsScalar n

abbrev pub style_word : Bool → List ℕ
style_word false = codes "normal"
style_word true = codes "italic"

-- `face NAME WEIGHT STYLE ASCENT DESCENT DEFAULT`
pub record IsFaceLine (line : List ℕ) (face : Face) : Type 0 where
  pub weight : List ℕ
  pub ascent : List ℕ
  pub descent : List ℕ
  pub default : List ℕ
  pub words : line ≡ spaced (codes "face")
      (spaced face.name (spaced weight (spaced (style_word face.italic) (spaced ascent (spaced descent default)))))
  pub named : 0 < length face.name
  pub name_bytes : IsTrue (list_all is_name_byte face.name)
  pub is_weight : IsDecimal weight face.weight
  pub weighs : 1 ≤ face.weight
  pub weight_most : face.weight ≤ 1000
  pub is_ascent : IsDecimal ascent face.ascent
  pub ascent_most : face.ascent ≤ 10000
  pub is_descent : IsDecimal descent face.descent
  pub descent_most : face.descent ≤ 10000
  pub is_default : IsDecimal default face.default_advance
  pub default_most : face.default_advance ≤ 10000

-- `ch HEX ADVANCE`
pub record IsCharacterLine (line : List ℕ) (a : Advance) : Type 0 where
  pub hex : List ℕ
  pub amount : List ℕ
  pub words : line ≡ spaced (codes "ch") (spaced hex amount)
  pub is_code : IsCode hex a.ch
  pub is_amount : IsDecimal amount a.amount
  pub amount_most : a.amount ≤ 10000

-- ---- the table

-- one line for each advance; the codes rise, none of them below the least
abbrev pub AreCharacters : ℕ → List (List ℕ) → List Advance → Type 0
AreCharacters least [] [] = Unit {0}
AreCharacters least [] (a ∷ more) = ⊥
AreCharacters least (line ∷ lines) [] = ⊥
AreCharacters least (line ∷ lines) (a ∷ more) = IsCharacterLine line a × (least ≤ a.ch) × AreCharacters (a.ch + 1) lines more

-- for each face its line, and the lines of its characters
abbrev pub AreFaces : List (List ℕ) → List Face → Type 0
AreFaces lines [] = lines ≡ []
AreFaces lines (face ∷ faces) = (line : List ℕ) × (own : List (List ℕ)) × (rest : List (List ℕ)) × (lines ≡ line ∷ (own ++ rest))
    × IsFaceLine line face × AreCharacters 0 own face.advances × AreFaces rest faces

-- the line `metrics 1`, and at least one face
pub record IsTable (lines : List (List ℕ)) (faces : List Face) : Type 0 where
  pub rest : List (List ℕ)
  pub whole : lines ≡ codes "metrics 1" ∷ rest
  pub are_faces : AreFaces rest faces
  pub some : 0 < length faces

-- the text is the table of these faces
pub record IsMetrics (text : List ℕ) (faces : List Face) : Type 0 where
  pub lines : List (List ℕ)
  pub whole : text ≡ text_of lines
  pub are_lines : AllByRecursion IsLine lines
  pub is_table : IsTable lines faces

-- ---- the first fault

-- some table begins with these lines
abbrev pub Begins : List (List ℕ) → Type 0
Begins front = (more : List (List ℕ)) × (faces : List Face) × IsTable (front ++ more) faces

-- the text from here on begins with a whole line
pub record HasLine (rest line : List ℕ) : Type 0 where
  pub after : List ℕ
  pub whole : rest ≡ line ++ 10 ∷ after
  pub is_line : IsLine line

-- After lines that begin a table: what is wrong with what follows, the offset where it begins, and where and by which
-- rule it is reported.
pub data IsFaultBehind (front : List (List ℕ)) (rest : List ℕ) (start at rule : ℕ) : Type 0 where
  -- a byte that no line has
  bad_byte : (line : List ℕ) (byte : ℕ) (after : List ℕ) → rest ≡ line ++ byte ∷ after → IsLine line → is_plain byte ≡ false
      → byte ≢ 10
      → at ≡ start + length line → rule ≡ 2 → IsFaultBehind front rest start at rule
  -- a last line without its line feed
  cut_short : 0 < length rest → IsLine rest → at ≡ start → rule ≡ 2 → IsFaultBehind front rest start at rule
  -- a first line that isn't `metrics 1`, or none
  no_header : front ≡ [] → (rest ≡ []) ⊎ ((line : List ℕ) × (line ≢ codes "metrics 1") × HasLine rest line) → at ≡ start
      → rule ≡ 3
      → IsFaultBehind front rest start at rule
  -- a line that is neither a face's nor a character's
  no_form : (line : List ℕ) → 0 < length front → HasLine rest line → ((face : Face) → IsFaceLine line face → ⊥)
      → ((a : Advance) → IsCharacterLine line a → ⊥)
      → at ≡ start → rule ≡ 4 → IsFaultBehind front rest start at rule
  -- a character's line with which no table goes on: before a face, or out of order
  out_of_order : (line : List ℕ) (a : Advance) → 0 < length front → HasLine rest line → IsCharacterLine line a
      → (Begins (front ++ line ∷ []) → ⊥)
      → at ≡ start → rule ≡ 5 → IsFaultBehind front rest start at rule
  -- the end, and no face
  no_face : 0 < length front → rest ≡ [] → ((faces : List Face) → IsTable front faces → ⊥) → at ≡ start → rule ≡ 6
      → IsFaultBehind front rest start at rule

-- after the longest front of lines that begins a table
pub record IsFaultOfLines (text : List ℕ) (at rule : ℕ) : Type 0 where
  pub sound : sound_len text ≡ length text
  pub front : List (List ℕ)
  pub rest : List ℕ
  pub whole : text ≡ text_of front ++ rest
  pub are_lines : AllByRecursion IsLine front
  pub begins : Begins front
  pub fault : IsFaultBehind front rest (length (text_of front)) at rule

-- the first fault of a text that is no table: its offset and the number of its rule
abbrev pub IsFirstFault : List ℕ → ℕ → ℕ → Type 0
IsFirstFault text at rule = ((rule ≡ 1) × (at ≡ sound_len text) × (at < length text)) ⊎ IsFaultOfLines text at rule
