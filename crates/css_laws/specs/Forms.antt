-- The forms of tokens (CSS Syntax 3, section 4): which characters spell which token. Numbers have no exponent here, escapes
-- stand in strings alone, and white space is space, tab and line feed.
use Rattle.std.specs.Prelude.{◌≡◌, ◌⊎◌, ℕ, List, [], ◌∷◌, ◌++◌, ◌==◌, Bool, true, false, ◌&&◌, ◌||◌, not, Option, Some, None}
use Rattle.std.specs.Prelude.{encode_utf8_all}
use Rattle.std.specs.Char.{is_ascii_digit}
use Rattle.html_grammar.specs.declared.place.Place.{Place}
use Rattle.html_grammar.specs.Places.{place_or, begins_with, begins}
use Rattle.html_grammar.specs.Tokens.{is_space}
use Rattle.html_grammar.specs.Spelling.{codes_of, Passes, SomePass, NoneBegins}
use Rattle.css_tokens.specs.Characters.{is_name, is_start, is_sign}
use Rattle.css_tokens.specs.declared.lexeme.Lexeme.{Lexeme}
use Rattle.css_tokens.specs.declared.lexeme.Symbol.{Symbol}
use Rattle.css_tokens.specs.declared.lexeme.Symbol.TheVariants.{Ident, Hash, Quoted, Number, Percent, Dimension, Function, Delim}
use Rattle.css_tokens.specs.declared.lexeme.Symbol.TheVariants.{Space, Broken}

-- the bytes of characters
abbrev pub text_of : List Place → List ℕ
text_of ps = encode_utf8_all (codes_of ps)

-- an identifier: name characters of which the first is no digit; after a first - stands a second one that is no digit
abbrev pub IsIdent : List Place → Type 0
IsIdent [] = ⊥
IsIdent (p ∷ ps) = (is_start p.character ≡ true) × Passes is_name ps × (p.character ≡ 45 → begins_with is_start ps ≡ true)

-- + or -, or nothing
abbrev pub IsSign : List Place → Type 0
IsSign [] = Unit {0}
IsSign (p ∷ ps) = (is_sign p.character ≡ true) × (ps ≡ [])

-- a point with digits, or nothing
abbrev pub IsFraction : List Place → Type 0
IsFraction [] = Unit {0}
IsFraction (p ∷ ps) = (p.character ≡ 46) × SomePass is_ascii_digit ps

-- a number: a sign or none, digits, and a fraction or none; digits stand before the point or after it
pub record IsNumber (one : List Place) : Type 0 where
  pub sign : List Place
  pub digits : List Place
  pub fraction : List Place
  pub whole : one ≡ sign ++ (digits ++ fraction)
  pub signed : IsSign sign
  pub counted : Passes is_ascii_digit digits
  pub pointed : IsFraction fraction
  pub some : digits ++ fraction ≡ [] → ⊥

abbrev pub is_quote : ℕ → Bool
is_quote c = (c == 34) || (c == 39)

-- What stands in a string: characters but its quote, a line feed and a backslash, each by itself; and a backslash with any
-- character after it.
pub data Part : Type 0 where
  Plain : (p : Place) → Part
  Escaped : (slash p : Place) → Part

abbrev pub spelled : List Part → List Place
spelled [] = []
spelled (Plain p ∷ parts) = p ∷ spelled parts
spelled (Escaped slash p ∷ parts) = slash ∷ (p ∷ spelled parts)

abbrev pub is_inner : ℕ → ℕ → Bool
is_inner q c = not (c == q) && (not (c == 10) && not (c == 92))

abbrev pub AreParts : ℕ → List Part → Type 0
AreParts q [] = Unit {0}
AreParts q (Plain p ∷ parts) = (is_inner q p.character ≡ true) × AreParts q parts
AreParts q (Escaped slash p ∷ parts) = (slash.character ≡ 92) × AreParts q parts

-- a string: a quote, what stands in it, and the same quote
pub record IsString (text : List ℕ) (one : List Place) : Type 0 where
  pub opening : Place
  pub parts : List Part
  pub closing : Place
  pub whole : one ≡ opening ∷ (spelled parts ++ closing ∷ [])
  pub quoted : is_quote opening.character ≡ true
  pub closes : closing.character ≡ opening.character
  pub inner : AreParts opening.character parts
  pub text_is : text ≡ text_of (spelled parts)

-- nothing, or a backslash that has no character to take with it
abbrev pub IsLone : List Place → Type 0
IsLone [] = Unit {0}
IsLone (p ∷ ps) = (p.character ≡ 92) × (ps ≡ [])

-- a string that isn't closed: it reaches to a line feed, or to the end of the text
pub record IsOpenString (one rest : List Place) : Type 0 where
  pub opening : Place
  pub parts : List Part
  pub tail : List Place
  pub whole : one ≡ opening ∷ (spelled parts ++ tail)
  pub quoted : is_quote opening.character ≡ true
  pub inner : AreParts opening.character parts
  pub ends : ((feed : Place) × (tail ≡ feed ∷ []) × (feed.character ≡ 10)) ⊎ (IsLone tail × (rest ≡ []))

-- */ comes next
abbrev pub ends_comment : List Place → Bool
ends_comment [] = false
ends_comment (p ∷ ps) = (p.character == 42) && begins 47 ps

-- a comment: /* up to the first */ after it
pub record IsComment (one : List Place) : Type 0 where
  pub slash : Place
  pub star : Place
  pub inner : List Place
  pub last : Place
  pub end : Place
  pub whole : one ≡ slash ∷ (star ∷ (inner ++ (last ∷ (end ∷ []))))
  pub opens : slash.character ≡ 47
  pub opens_too : star.character ≡ 42
  pub closes : last.character ≡ 42
  pub closes_too : end.character ≡ 47
  pub not_over : NoneBegins ends_comment inner (last ∷ (end ∷ []))

-- a comment that isn't closed: it reaches to the end of the text
pub record IsOpenComment (one rest : List Place) : Type 0 where
  pub slash : Place
  pub star : Place
  pub inner : List Place
  pub whole : one ≡ slash ∷ (star ∷ inner)
  pub opens : slash.character ≡ 47
  pub opens_too : star.character ≡ 42
  pub not_over : NoneBegins ends_comment inner []
  pub ends : rest ≡ []

-- every other character stands for itself
abbrev pub is_other : ℕ → Bool
is_other c = not (is_space c) && (not (is_ascii_digit c) && (not (is_quote c) && (not (is_start c) || (c == 45))))

-- These characters spell this token. What stands after them matters only where the text ends in a string or a comment.
abbrev pub IsForm : Symbol → List Place → List Place → Type 0
IsForm (Ident text) one rest = IsIdent one × (text ≡ text_of one)
IsForm (Hash text) one rest = (hash : Place) × (name : List Place) × (one ≡ hash ∷ name) × (hash.character ≡ 35)
    × SomePass is_name name × (text ≡ text_of name)
IsForm (Quoted text) one rest = IsString text one
IsForm (Number digits) one rest = IsNumber one × (digits ≡ text_of one)
IsForm (Percent digits) one rest = (number : List Place) × (sign : Place) × (one ≡ number ++ sign ∷ []) × IsNumber number
    × (sign.character ≡ 37) × (digits ≡ text_of number)
IsForm (Dimension digits unit) one rest = (number : List Place) × (name : List Place) × (one ≡ number ++ name) × IsNumber number
    × IsIdent name × (digits ≡ text_of number) × (unit ≡ text_of name)
IsForm (Function name paren) one rest = (named : List Place) × (p : Place) × (one ≡ named ++ p ∷ []) × IsIdent named
    × (p.character ≡ 40) × (name ≡ text_of named) × (paren ≡ p.at)
IsForm (Delim c) one rest = (p : Place) × (one ≡ p ∷ []) × (p.character ≡ c) × (is_other c ≡ true)
IsForm Space one rest = SomePass is_space one
IsForm (Broken rule) one rest = (IsOpenComment one rest × (rule ≡ 2)) ⊎ (IsOpenString one rest × (rule ≡ 3))

-- a token with its place, or a comment, which is none
abbrev pub IsPiece : Option Lexeme → List Place → List Place → Type 0
IsPiece None one rest = IsComment one
IsPiece (Some x) one rest = (x.at ≡ place_or 0 one) × IsForm x.symbol one rest
