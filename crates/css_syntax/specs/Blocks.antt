-- The declarations of a block (CSS Syntax 3, section 5.4.4; CSS 2.1, section 4.1.8): pieces with semicolons between them, outside
-- brackets; a piece is a name, a colon, a value that isn't empty, and perhaps !important. Other pieces, and those with a
-- backslash, are left out.
use Rattle.std.specs.Prelude.{ℕ, zero, suc, ◌+◌, ◌-◌, ◌==◌, List, [], ◌∷◌, ◌++◌, length, take, drop, map, codes, Bool, true}
use Rattle.std.specs.Prelude.{false, ◌&&◌, if◌then◌else◌, Option, Some, None, option_to_list, slice_get}
use Rattle.std.specs.List.{list_any}
use Rattle.css_data.specs.declared.rule.RawDeclaration.{RawDeclaration}
use Rattle.css_tokens.specs.declared.depth.Stop.TheVariants as stops
use Rattle.css_tokens.specs.declared.lexeme.Lexeme.{Lexeme}
use Rattle.css_tokens.specs.Facts.{is_space, is_delim, is_word, ident_of, begins, behind_first, behind_spaces, front_len}
use Rattle.css_tokens.specs.Stops.{stops_at}
use Rattle.css_syntax.specs.Tokens.{token_of}

-- how many stand up to the last that is no white space
abbrev pub trimmed_len : List Lexeme → ℕ
trimmed_len [] = 0
trimmed_len (x ∷ xs) = if is_space x && (trimmed_len xs == 0) then 0 else (1 + trimmed_len xs)

abbrev pub trimmed : List Lexeme → List Lexeme
trimmed xs = take (trimmed_len xs) xs

abbrev pub last : List Lexeme → Option Lexeme
last xs = slice_get xs (length xs - 1)

abbrev pub before_last : List Lexeme → List Lexeme
before_last xs = take (length xs - 1) xs

abbrev pub is_this : ℕ → Option Lexeme → Bool
is_this c None = false
is_this c (Some x) = is_delim c x

abbrev pub ends_with : ℕ → List Lexeme → Bool
ends_with c xs = is_this c (last xs)

abbrev pub names_important : Option (List ℕ) → Bool
names_important None = false
names_important (Some name) = is_word name (codes "important")

abbrev pub is_important : Option Lexeme → Bool
is_important None = false
is_important (Some x) = names_important (ident_of x)

abbrev pub ends_important : List Lexeme → Bool
ends_important xs = is_important (last xs)

-- a value without its final !important, and whether it has one
abbrev pub parted : List Lexeme → List Lexeme × Bool
parted xs =
    if ends_important xs && ends_with 33 (trimmed (before_last xs))
    then (trimmed (before_last (trimmed (before_last xs))), true)
    else (xs, false)

abbrev pub is_escape : Lexeme → Bool
is_escape x = is_delim 92 x

abbrev pub offset_of : List Lexeme → ℕ
offset_of [] = 0
offset_of (x ∷ xs) = x.at

abbrev pub first_name : List Lexeme → Option (List ℕ)
first_name [] = None
first_name (x ∷ xs) = ident_of x

abbrev pub declared_as : List ℕ → ℕ → List Lexeme × Bool → Option RawDeclaration
declared_as name at value =
    if length value.0 == 0 then None
    else Some (record { name = name; value = map token_of value.0; important = value.1; offset = at })

-- behind a name that stands at a byte, and white space
abbrev pub valued : List ℕ → ℕ → List Lexeme → Option RawDeclaration
valued name at xs = if begins 58 xs then declared_as name at (parted (trimmed (behind_spaces (behind_first xs)))) else None

abbrev pub named : Option (List ℕ) → List Lexeme → Option RawDeclaration
named None xs = None
named (Some name) xs = valued name (offset_of xs) (behind_spaces (behind_first xs))

-- the declaration that a piece spells
unfoldable pub declaration_of : List Lexeme → Option RawDeclaration
declaration_of xs = if list_any is_escape xs then None else named (first_name (behind_spaces xs)) (behind_spaces xs)

-- how many lexemes the piece in front has
abbrev pub piece_len : List Lexeme → ℕ
piece_len xs = front_len (stops_at (stops.At 59)) 0 xs

-- the declarations of the pieces, of which there are at most as many as counted
unfoldable pub declarations_from : ℕ → List Lexeme → List RawDeclaration
declarations_from zero xs = []
declarations_from (suc n) [] = []
declarations_from (suc n) (x ∷ xs) =
    option_to_list (declaration_of (take (piece_len (x ∷ xs)) (x ∷ xs))) ++ declarations_from n
    (behind_first (drop (piece_len (x ∷ xs)) (x ∷ xs)))

abbrev pub declarations_of : List Lexeme → List RawDeclaration
declarations_of xs = declarations_from (length xs) xs
