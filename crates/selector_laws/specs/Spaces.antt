-- White space, and signs with white space around them.
use Rattle.std.specs.Prelude.{◌≡◌, ℕ, List, [], ◌∷◌, ◌++◌, true}
use Rattle.css_tokens.specs.declared.lexeme.Lexeme.{Lexeme}
use Rattle.css_tokens.specs.Facts.{is_space, is_delim}

abbrev pub AreSpaces : List Lexeme → Type 0
AreSpaces [] = Unit {0}
AreSpaces (x ∷ xs) = (is_space x ≡ true) × AreSpaces xs

-- white space, or none, and the rest
abbrev pub Spaced : List Lexeme → List Lexeme → Type 0
Spaced xs rest = (gap : List Lexeme) × (xs ≡ gap ++ rest) × AreSpaces gap

-- a sign with white space around it, or none, and the rest
abbrev pub IsSign : ℕ → List Lexeme → List Lexeme → Type 0
IsSign c xs rest = (sign : Lexeme) × (more : List Lexeme) × Spaced xs (sign ∷ more) × (is_delim c sign ≡ true) × Spaced more rest
