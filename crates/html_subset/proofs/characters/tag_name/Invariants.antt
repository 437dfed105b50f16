use Rattle.std.proofs.Common.{◌≡◌, ◌++◌, length}
use Rattle.html_grammar.specs.Places.{behind_while}
use Rattle.html_grammar.specs.Lexing.{is_name_char}
use Rattle.html_grammar.specs.Lexing as lex
use Rattle.html_subset.proofs.characters.tag_name.Given as goal

abbrev pub invariant-loop-place : goal.invariant-loop-place
invariant-loop-place l = record {
  text : l.text ++ lex.tag_name l.cursor ≡ lex.tag_name l.fn.cursor;
  rest : behind_while is_name_char l.cursor ≡ behind_while is_name_char l.fn.cursor;
}

abbrev pub decreases-loop-place : goal.decreases-loop-place
decreases-loop-place l = length l.cursor
