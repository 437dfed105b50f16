use Rattle.std.proofs.Common.{◌≡◌, ◌++◌, false, length}
use Rattle.css_tokens.specs.Lexing.{quoted_text, behind_quoted}
use Rattle.css_tokens.proofs.symbols.quoted_text.Given as goal

abbrev pub invariant-loop-place : goal.invariant-loop-place
invariant-loop-place l = record {
  text : l.text ++ quoted_text l.quote l.escaped l.cursor ≡ quoted_text l.quote false l.fn.cursor;
  rest : behind_quoted l.quote l.escaped l.cursor ≡ behind_quoted l.quote false l.fn.cursor;
}

abbrev pub decreases-loop-place : goal.decreases-loop-place
decreases-loop-place l = length l.cursor
