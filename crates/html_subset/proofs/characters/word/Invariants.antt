use Rattle.std.proofs.Common.{◌≡◌, ◌++◌, length}
use Rattle.std.specs.Char.{is_ascii_alphanumeric}
use Rattle.html_grammar.specs.Places.{behind_while, codes_while}
use Rattle.html_subset.proofs.characters.word.Given as goal

abbrev pub invariant-loop-place : goal.invariant-loop-place
invariant-loop-place l = record {
  text : l.text ++ codes_while is_ascii_alphanumeric l.cursor ≡ codes_while is_ascii_alphanumeric l.fn.cursor;
  rest : behind_while is_ascii_alphanumeric l.cursor ≡ behind_while is_ascii_alphanumeric l.fn.cursor;
}

abbrev pub decreases-loop-place : goal.decreases-loop-place
decreases-loop-place l = length l.cursor
