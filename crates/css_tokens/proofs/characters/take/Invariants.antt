use Rattle.std.proofs.Common.{◌≡◌, ◌++◌, length}
use Rattle.html_grammar.specs.Places.{behind_while}
use Rattle.css_tokens.specs.Classes.{test_of}
use Rattle.css_tokens.specs.Lexing.{text_while}
use Rattle.css_tokens.proofs.characters.take.Given as goal

abbrev pub invariant-loop-place : goal.invariant-loop-place
invariant-loop-place l = record {
  text : l.text ++ text_while (test_of l.class) l.cursor ≡ l.fn.text ++ text_while (test_of l.class) l.fn.cursor;
  rest : behind_while (test_of l.class) l.cursor ≡ behind_while (test_of l.class) l.fn.cursor;
}

abbrev pub decreases-loop-place : goal.decreases-loop-place
decreases-loop-place l = length l.cursor
