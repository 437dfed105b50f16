-- Reading the words of a line, as functions on lists.
use Rattle.std.specs.Prelude.{ℕ, ◌+◌, ◌*◌, Bool, true, false, ◌&&◌, nat_lt, nat_le, ◌==◌, if◌then◌else◌, List, [], ◌∷◌, length}
use Rattle.std.specs.Prelude.{slice_index, codes, Option, Some, None}
use Rattle.std.specs.List.{list_all}
use Rattle.std.specs.Str.{bytes_eq}
use Rattle.std.specs.Char.{digit_value}
use Rattle.mc_base.specs.Finding.{◌>>=◌}
use lib.Utf8.{scalar}
use Rattle.font_table.specs.declared.fonts.Advance.{Advance}
use Rattle.font_table.specs.declared.fonts.Face.{Face}
use Rattle.font_table.specs.Table.{is_digit, is_hex_digit, is_name_byte}

-- the word in front of the first space, and what follows the space
abbrev pub word_at : List ℕ → Option (List ℕ × List ℕ)
word_at [] = None
word_at (b ∷ bs) = if b == 32 then Some ([], bs) else (word_at bs >>= λ x. Some (b ∷ x.0, x.1))

abbrev pub base : Bool → ℕ
base false = 10
base true = 16

abbrev pub is_digit_of : Bool → ℕ → Bool
is_digit_of false b = is_digit b
is_digit_of true b = is_hex_digit b

-- the number that these digits write after those of n, where it is at most `most`
abbrev pub digits_from : Bool → ℕ → ℕ → List ℕ → Option ℕ
digits_from hex most n [] = Some n
digits_from hex most n (b ∷ bs) =
    if is_digit_of hex b then
    (if nat_le (n * base hex + digit_value b) most then digits_from hex most (n * base hex + digit_value b) bs else None)
    else None

unfoldable pub number_at : Bool → ℕ → List ℕ → Option ℕ
number_at hex most bytes = if length bytes == 0 then None else digits_from hex most 0 bytes

abbrev pub scalar_of : ℕ → Option ℕ
scalar_of n = if scalar n then Some n else None

-- a character's code
unfoldable pub code_at : List ℕ → Option ℕ
code_at bytes = if (slice_index bytes 0 == 48) && nat_lt 1 (length bytes) then None else
    (number_at true 0x10FFFF bytes >>= scalar_of)

-- what follows a first word that is this one
unfoldable pub behind_keyword : List ℕ → List ℕ → Option (List ℕ)
behind_keyword keyword line = do
  word ← word_at line
  if bytes_eq word.0 keyword then Some word.1 else None

unfoldable pub name_at : List ℕ → Option (List ℕ × List ℕ)
name_at bytes = do
  word ← word_at bytes
  if nat_lt 0 (length word.0) && list_all is_name_byte word.0 then Some word else None

unfoldable pub field_at : ℕ → List ℕ → Option (ℕ × List ℕ)
field_at most bytes = do
  word ← word_at bytes
  n ← number_at false most word.0
  Some (n, word.1)

unfoldable pub weight_at : List ℕ → Option (ℕ × List ℕ)
weight_at bytes = do
  weight ← field_at 1000 bytes
  if nat_lt 0 weight.0 then Some weight else None

unfoldable pub style_of : List ℕ → Option Bool
style_of word = if bytes_eq word (codes "normal") then Some false else
    (if bytes_eq word (codes "italic") then Some true else None)

unfoldable pub style_at : List ℕ → Option (Bool × List ℕ)
style_at bytes = do
  word ← word_at bytes
  italic ← style_of word.0
  Some (italic, word.1)

-- the face of a face's line, without characters
unfoldable pub face_at : List ℕ → Option Face
face_at line = do
  behind ← behind_keyword (codes "face") line
  name ← name_at behind
  weight ← weight_at name.1
  style ← style_at weight.1
  ascent ← field_at 10000 style.1
  descent ← field_at 10000 ascent.1
  default ← number_at false 10000 descent.1
  Some (record {
    name = name.0;
    weight = weight.0;
    italic = style.0;
    ascent = ascent.0;
    descent = descent.0;
    default_advance = default;
    advances = [];
  })

-- the advance of a character's line
unfoldable pub character_at : List ℕ → Option Advance
character_at line = do
  behind ← behind_keyword (codes "ch") line
  word ← word_at behind
  ch ← code_at word.0
  amount ← number_at false 10000 word.1
  Some (record { ch = ch; amount = amount })
