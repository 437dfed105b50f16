use Rattle.std.proofs.Common.{◌≡◌, ◌++◌, length}
use Rattle.std.specs.Prelude.{encode_utf8_all}
use Rattle.html_grammar.specs.Lexing.{raw_codes, behind_raw}
use Rattle.html_subset.proofs.tokens.raw_text.Given as goal

abbrev pub invariant-loop-place : goal.invariant-loop-place
invariant-loop-place l = record {
  text : l.text ++ encode_utf8_all (raw_codes l.name l.cursor) ≡ encode_utf8_all (raw_codes l.name l.fn.cursor);
  rest : behind_raw l.name l.cursor ≡ behind_raw l.name l.fn.cursor;
}

abbrev pub decreases-loop-place : goal.decreases-loop-place
decreases-loop-place l = length l.cursor
