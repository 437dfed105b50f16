use Rattle.std.proofs.Common.{◌≡◌, ◌++◌, ◌-◌, length, chars}
use Rattle.html_grammar.specs.Places.{places_of}
use Rattle.css_tokens.specs.Lexing.{lexemes_from}
use Rattle.css_tokens.proofs.reading.all_lexemes.Given as goal

abbrev pub invariant-loop : goal.invariant-loop
invariant-loop l = l.all ++ lexemes_from (length l.text - l.counter) l.cursor
    ≡ lexemes_from (length l.text) (places_of (chars l.text))
