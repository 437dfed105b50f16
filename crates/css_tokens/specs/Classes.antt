-- The kinds of characters that the reader tells apart.
use Rattle.std.specs.Prelude.{ℕ, Bool}
use Rattle.std.specs.Char.{is_ascii_digit}
use Rattle.html_grammar.specs.Tokens.{is_space}
use Rattle.css_tokens.specs.Characters.{is_name, is_start, is_sign}
use Rattle.css_tokens.specs.declared.characters.Class.{Class}
use Rattle.css_tokens.specs.declared.characters.Class.TheVariants as classes

abbrev pub test_of : Class → ℕ → Bool
test_of classes.Space = is_space
test_of classes.Digit = is_ascii_digit
test_of classes.Name = is_name
test_of classes.Start = is_start
test_of classes.Sign = is_sign
