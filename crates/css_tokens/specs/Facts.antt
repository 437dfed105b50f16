-- What is to be known of lexemes, and of lists of them.
use Rattle.std.specs.Prelude.{ℕ, ◌+◌, ◌-◌, ◌==◌, List, [], ◌∷◌, map, Bool, true, false, ◌&&◌, ◌||◌, is_some, if◌then◌else◌}
use Rattle.std.specs.Prelude.{Option, Some, None}
use Rattle.std.specs.Char.{to_ascii_lowercase}
use Rattle.std.specs.Str.{bytes_eq}
use Rattle.css_tokens.specs.declared.lexeme.Lexeme.{Lexeme}
use Rattle.css_tokens.specs.declared.lexeme.Symbol.{Symbol}
use Rattle.css_tokens.specs.declared.lexeme.Symbol.TheVariants.{Ident, Hash, Quoted, Function, Delim, Space, Broken}

abbrev pub delim_in : Symbol → Option ℕ
delim_in (Delim c) = Some c
delim_in _ = None

-- the character that a lexeme is
abbrev pub delim_of : Lexeme → Option ℕ
delim_of x = delim_in x.symbol

abbrev pub is_this : ℕ → Option ℕ → Bool
is_this c None = false
is_this c (Some d) = d == c

abbrev pub is_delim : ℕ → Lexeme → Bool
is_delim c x = is_this c (delim_of x)

abbrev pub is_space_in : Symbol → Bool
is_space_in Space = true
is_space_in _ = false

abbrev pub is_space : Lexeme → Bool
is_space x = is_space_in x.symbol

abbrev pub ident_in : Symbol → Option (List ℕ)
ident_in (Ident text) = Some text
ident_in _ = None

abbrev pub ident_of : Lexeme → Option (List ℕ)
ident_of x = ident_in x.symbol

abbrev pub function_in : Symbol → Option (List ℕ)
function_in (Function name paren) = Some name
function_in _ = None

abbrev pub function_of : Lexeme → Option (List ℕ)
function_of x = function_in x.symbol

abbrev pub hash_in : Symbol → Option (List ℕ)
hash_in (Hash text) = Some text
hash_in _ = None

abbrev pub hash_of : Lexeme → Option (List ℕ)
hash_of x = hash_in x.symbol

abbrev pub word_in : Symbol → Option (List ℕ)
word_in (Ident text) = Some text
word_in (Quoted text) = Some text
word_in _ = None

abbrev pub word_of : Lexeme → Option (List ℕ)
word_of x = word_in x.symbol

abbrev pub broken_in : Symbol → Option ℕ
broken_in (Broken rule) = Some rule
broken_in _ = None

abbrev pub broken_of : Lexeme → Option ℕ
broken_of x = broken_in x.symbol

-- the sign that closes what this character opens
abbrev pub closer : ℕ → Option ℕ
closer c = if c == 40 then Some 41 else (if c == 91 then Some 93 else (if c == 123 then Some 125 else None))

abbrev pub closer_in : Symbol → Option ℕ
closer_in (Delim c) = closer c
closer_in (Function name paren) = Some 41
closer_in _ = None

abbrev pub closer_of : Lexeme → Option ℕ
closer_of x = closer_in x.symbol

abbrev pub sign_in : ℕ → Symbol → ℕ
sign_in at (Function name paren) = paren
sign_in at _ = at

-- the byte of an opening sign
abbrev pub sign_of : Lexeme → ℕ
sign_of x = sign_in x.at x.symbol

abbrev pub is_closer : Lexeme → Bool
is_closer x = is_delim 41 x || (is_delim 93 x || is_delim 125 x)

-- Names, without regard to the case of ASCII letters.

unfoldable pub is_word : List ℕ → List ℕ → Bool
is_word name word = bytes_eq (map to_ascii_lowercase name) (map to_ascii_lowercase word)

abbrev pub is_in : List ℕ → List (List ℕ) → Bool
is_in name [] = false
is_in name (w ∷ ws) = is_word name w || is_in name ws

-- Lists of lexemes.

abbrev pub first : List Lexeme → Option Lexeme
first [] = None
first (x ∷ xs) = Some x

abbrev pub behind_first : List Lexeme → List Lexeme
behind_first [] = []
behind_first (x ∷ xs) = xs

abbrev pub begins : ℕ → List Lexeme → Bool
begins c [] = false
begins c (x ∷ xs) = is_delim c x

abbrev pub begins_space : List Lexeme → Bool
begins_space [] = false
begins_space (x ∷ xs) = is_space x

abbrev pub behind_spaces : List Lexeme → List Lexeme
behind_spaces [] = []
behind_spaces (x ∷ xs) = if is_space x then behind_spaces xs else (x ∷ xs)

-- how many brackets are open after a lexeme
abbrev pub deeper : ℕ → Lexeme → ℕ
deeper d x = if is_some (closer_of x) then (d + 1) else (if is_closer x then (d - 1) else d)

-- how many stand in front of the first that passes a test outside brackets, of which so many are open
abbrev pub front_len : (Lexeme → Bool) → ℕ → List Lexeme → ℕ
front_len test d [] = 0
front_len test d (x ∷ xs) = if (d == 0) && test x then 0 else (1 + front_len test (deeper d x) xs)
