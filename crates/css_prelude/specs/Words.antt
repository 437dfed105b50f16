-- Names and texts in front of a list of lexemes.
use Rattle.std.specs.Prelude.{ℕ, List, [], ◌∷◌, Option, Some, None}
use Rattle.mc_base.specs.declared.refusal.Found.{Found}
use Rattle.css_tokens.specs.declared.lexeme.Lexeme.{Lexeme}
use Rattle.css_tokens.specs.Facts.{ident_of, function_of, hash_of, word_of, behind_first}
use Rattle.css_prelude.specs.Options.{◌>>=◌}

abbrev pub or_found : Option Found → Option Found → Option Found
or_found None b = b
or_found (Some a) b = Some a

abbrev pub first_ident : List Lexeme → Option (List ℕ)
first_ident [] = None
first_ident (x ∷ xs) = ident_of x

abbrev pub first_function : List Lexeme → Option (List ℕ)
first_function [] = None
first_function (x ∷ xs) = function_of x

abbrev pub first_hash : List Lexeme → Option (List ℕ)
first_hash [] = None
first_hash (x ∷ xs) = hash_of x

abbrev pub first_word : List Lexeme → Option (List ℕ)
first_word [] = None
first_word (x ∷ xs) = word_of x

-- an identifier, and what stands after it
abbrev pub ident_at : List Lexeme → Option (List ℕ × List Lexeme)
ident_at xs = first_ident xs >>= λ t. Some (t, behind_first xs)

-- the text of an identifier or a string, and what stands after it
abbrev pub word_at : List Lexeme → Option (List ℕ × List Lexeme)
word_at xs = first_word xs >>= λ t. Some (t, behind_first xs)
