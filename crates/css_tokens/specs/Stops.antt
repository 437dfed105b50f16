-- Where a part of a list of lexemes ends.
use Rattle.std.specs.Prelude.{Bool, ◌||◌}
use Rattle.css_tokens.specs.declared.depth.Stop.{Stop}
use Rattle.css_tokens.specs.declared.depth.Stop.TheVariants as stops
use Rattle.css_tokens.specs.declared.lexeme.Lexeme.{Lexeme}
use Rattle.css_tokens.specs.Facts.{is_delim}

abbrev pub stops_at : Stop → Lexeme → Bool
stops_at (stops.At c) x = is_delim c x
stops_at stops.Prelude x = is_delim 123 x || is_delim 59 x
