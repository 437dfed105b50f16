-- The media that an attribute lists. A byte order mark is none of its characters.
use Rattle.std.specs.Prelude.{ℕ, List, [], ◌∷◌, nat_eq, Bool, Option, None, Result, Ok, Err, if◌then◌else◌}
use Rattle.std.specs.List.{starts_with}
use Rattle.css_tokens.specs.declared.lexeme.Fault.{Fault}
use Rattle.css_tokens.specs.declared.lexeme.Lexeme.{Lexeme}
use Rattle.css_tokens.specs.Lexing.{lexed}
use Rattle.css_prelude.specs.Media.{media_of}

abbrev pub media_or_none : Result (List Lexeme) Fault → Option Bool
media_or_none (Ok xs) = media_of xs
media_or_none (Err f) = None

unfoldable pub media_in_text : List ℕ → Option Bool
media_in_text bytes = if starts_with nat_eq bytes (0xEF ∷ 0xBB ∷ 0xBF ∷ []) then None else media_or_none (lexed bytes)
