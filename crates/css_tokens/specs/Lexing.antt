-- The lexeme in front of the places of a text, as it is read: the longest is taken (CSS Syntax 3, section 4.3).
use Rattle.std.specs.Prelude.{ℕ, zero, suc, ◌==◌, nat_lt, List, [], ◌∷◌, ◌++◌, length, chars, Bool, false, ◌&&◌, ◌||◌, not}
use Rattle.std.specs.Prelude.{if◌then◌else◌, Option, Some, None, option_to_list, Result, Ok, Err, encode_utf8, encode_utf8_all}
use Rattle.std.specs.Char.{is_ascii_digit}
use Rattle.mc_base.specs.SoundText.{sound_len}
use Rattle.html_grammar.specs.declared.place.Place.{Place}
use Rattle.html_grammar.specs.Places.{places_of, behind_first, place_or, codes_while, behind_while, begins_with, begins}
use Rattle.html_grammar.specs.Tokens.{is_space}
use Rattle.css_tokens.specs.Characters.{is_name, is_start, is_sign}
use Rattle.css_tokens.specs.declared.lexeme.Fault.{Fault}
use Rattle.css_tokens.specs.declared.lexeme.Lexeme.{Lexeme}
use Rattle.css_tokens.specs.declared.lexeme.Symbol.{Symbol}
use Rattle.css_tokens.specs.declared.lexeme.Symbol.TheVariants.{Ident, Hash, Quoted, Number, Percent, Dimension, Function, Delim}
use Rattle.css_tokens.specs.declared.lexeme.Symbol.TheVariants.{Space, Broken}

-- the first character
abbrev pub code_or : ℕ → List Place → ℕ
code_or d [] = d
code_or d (p ∷ ps) = p.character

-- the bytes of the characters in front that pass a test
abbrev pub text_while : (ℕ → Bool) → List Place → List ℕ
text_while test ps = encode_utf8_all (codes_while test ps)

-- An identifier is name characters of which the first is no digit; after a first - stands a second one that is no digit.
abbrev pub begins_ident : List Place → Bool
begins_ident ps = begins_with is_start ps && (not (begins 45 ps) || begins_with is_start (behind_first ps))

abbrev pub name_text : List Place → List ℕ
name_text ps = text_while is_name ps

abbrev pub behind_name : List Place → List Place
behind_name ps = behind_while is_name ps

-- Numbers: a sign or none, digits or none, and a point with digits or none. Digits stand before the point or after it.

abbrev pub begins_point : List Place → Bool
begins_point ps = begins 46 ps && begins_with is_ascii_digit (behind_first ps)

abbrev pub begins_digits : List Place → Bool
begins_digits ps = begins_with is_ascii_digit ps || begins_point ps

abbrev pub behind_sign : List Place → List Place
behind_sign ps = if begins_with is_sign ps then behind_first ps else ps

abbrev pub begins_number : List Place → Bool
begins_number ps = if begins_with is_sign ps then begins_digits (behind_first ps) else begins_digits ps

abbrev pub sign_text : List Place → List ℕ
sign_text ps = if begins_with is_sign ps then encode_utf8 (code_or 0 ps) else []

abbrev pub fraction_text : List Place → List ℕ
fraction_text ps = if begins_point ps then encode_utf8 46 ++ text_while is_ascii_digit (behind_first ps) else []

abbrev pub behind_fraction : List Place → List Place
behind_fraction ps = if begins_point ps then behind_while is_ascii_digit (behind_first ps) else ps

abbrev pub number_text : List Place → List ℕ
number_text ps = (sign_text ps ++ text_while is_ascii_digit (behind_sign ps)) ++ fraction_text
    (behind_while is_ascii_digit (behind_sign ps))

abbrev pub behind_number : List Place → List Place
behind_number ps = behind_fraction (behind_while is_ascii_digit (behind_sign ps))

-- an identifier, or a function where a ( follows directly
unfoldable pub ident_at : List Place → Symbol × List Place
ident_at ps =
    if begins 40 (behind_name ps) then (Function (name_text ps) (place_or 0 (behind_name ps)), behind_first (behind_name ps))
    else (Ident (name_text ps), behind_name ps)

-- a number, with the % or the unit that follows directly
unfoldable pub numeric_at : List Place → Symbol × List Place
numeric_at ps =
    if begins 37 (behind_number ps) then (Percent (number_text ps), behind_first (behind_number ps))
    else (if begins_ident (behind_number ps) then
    (Dimension (number_text ps) (name_text (behind_number ps)), behind_name (behind_number ps))
    else (Number (number_text ps), behind_number ps))

-- after a #
unfoldable pub hash_at : List Place → Symbol × List Place
hash_at ps = if begins_with is_name ps then (Hash (name_text ps), behind_name ps) else (Delim 35, ps)

-- whether this character isn't the last of a string: the quote and a line feed end it, but not after a backslash
abbrev pub ends_string : ℕ → Bool → ℕ → Bool
ends_string q escaped c = not escaped && ((c == q) || (c == 10))

-- the text of a string up to its end, and what stands from there on
abbrev pub quoted_text : ℕ → Bool → List Place → List ℕ
quoted_text q escaped [] = []
quoted_text q escaped (p ∷ ps) =
    if ends_string q escaped p.character then [] else
    (encode_utf8 p.character ++ quoted_text q (not escaped && (p.character == 92)) ps)

abbrev pub behind_quoted : ℕ → Bool → List Place → List Place
behind_quoted q escaped [] = []
behind_quoted q escaped (p ∷ ps) =
    if ends_string q escaped p.character then (p ∷ ps) else behind_quoted q (not escaped && (p.character == 92)) ps

-- after an opening quote
unfoldable pub string_at : ℕ → List Place → Symbol × List Place
string_at q ps =
    if begins q (behind_quoted q false ps) then (Quoted (quoted_text q false ps), behind_first (behind_quoted q false ps))
    else (Broken 3, behind_first (behind_quoted q false ps))

-- what is no white space, name or number
unfoldable pub other_at : List Place → Symbol × List Place
other_at ps =
    if code_or 0 ps == 35 then hash_at (behind_first ps)
    else (if (code_or 0 ps == 34) || (code_or 0 ps == 39) then string_at (code_or 0 ps) (behind_first ps)
    else (Delim (code_or 0 ps), behind_first ps))

unfoldable pub symbol_at : List Place → Symbol × List Place
symbol_at ps =
    if begins_with is_space ps then (Space, behind_while is_space ps)
    else (if begins_ident ps then ident_at ps
    else (if begins_number ps then numeric_at ps
    else other_at ps))

-- from the first */ on
abbrev pub from_end : List Place → List Place
from_end [] = []
from_end (p ∷ ps) = if (p.character == 42) && begins 47 ps then (p ∷ ps) else from_end ps

-- a comment after its /*, which stands at a byte
unfoldable pub comment_at : ℕ → List Place → Option Lexeme × List Place
comment_at at ps =
    if begins 42 (from_end ps) then (None, behind_first (behind_first (from_end ps)))
    else (Some (record { at = at; symbol = Broken 2 }), from_end ps)

-- the lexeme in front, or none for a comment, and what stands after it
unfoldable pub piece_at : List Place → Option Lexeme × List Place
piece_at ps =
    if begins 47 ps && begins 42 (behind_first ps) then comment_at (place_or 0 ps) (behind_first (behind_first ps))
    else (Some (record { at = place_or 0 ps; symbol = (symbol_at ps).0 }), (symbol_at ps).1)

-- all lexemes, of which there are at most as many as counted
unfoldable pub lexemes_from : ℕ → List Place → List Lexeme
lexemes_from zero ps = []
lexemes_from (suc n) [] = []
lexemes_from (suc n) (p ∷ ps) = option_to_list (piece_at (p ∷ ps)).0 ++ lexemes_from n (piece_at (p ∷ ps)).1

-- the lexemes of a text, or the fault of its bytes
unfoldable pub lexed : List ℕ → Result (List Lexeme) Fault
lexed bytes =
    if nat_lt (sound_len bytes) (length bytes) then Err (record { at = sound_len bytes; rule = 1 })
    else Ok (lexemes_from (length bytes) (places_of (chars bytes)))
