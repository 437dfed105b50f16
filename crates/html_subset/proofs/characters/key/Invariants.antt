use Rattle.std.proofs.Common.{◌≡◌, ◌++◌, length}
use Rattle.html_grammar.specs.Places.{behind_while}
use Rattle.html_grammar.specs.Lexing.{is_key_char}
use Rattle.html_grammar.specs.Lexing as lex
use Rattle.html_subset.proofs.characters.key.Given as goal

abbrev pub invariant-loop-place : goal.invariant-loop-place
invariant-loop-place l = record {
  text : l.text ++ lex.key l.cursor ≡ lex.key l.fn.cursor;
  rest : behind_while is_key_char l.cursor ≡ behind_while is_key_char l.fn.cursor;
}

abbrev pub decreases-loop-place : goal.decreases-loop-place
decreases-loop-place l = length l.cursor
