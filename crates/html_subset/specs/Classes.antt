-- The kinds of characters that the reader tells apart.
use Rattle.std.specs.Prelude.{ℕ, Bool}
use Rattle.std.specs.Char.{is_ascii_alphabetic, is_ascii_alphanumeric}
use Rattle.html_grammar.specs.Tokens.{is_space}
use Rattle.html_grammar.specs.Lexing.{is_name_char, is_key_char, is_bare_char, is_past_name, is_other}
use Rattle.html_subset.specs.declared.characters.Class.{Class}
use Rattle.html_subset.specs.declared.characters.Class.TheVariants as classes

abbrev pub test_of : Class → ℕ → Bool
test_of classes.Space = is_space
test_of classes.Letter = is_ascii_alphabetic
test_of classes.Name = is_name_char
test_of classes.Key = is_key_char
test_of classes.Bare = is_bare_char
test_of classes.PastName = is_past_name
test_of classes.Word = is_ascii_alphanumeric
test_of (classes.Other c) = is_other c
