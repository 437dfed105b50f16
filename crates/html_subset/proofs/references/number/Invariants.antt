use Rattle.std.proofs.Common.{◌≡◌, ◌≤◌, length}
use Rattle.html_grammar.specs.Places.{codes_while, behind_while}
use Rattle.html_grammar.specs.Lexing.{number_from, is_radix_digit}
use Rattle.html_subset.proofs.references.number.Given as goal

abbrev pub invariant-loop-place : goal.invariant-loop-place
invariant-loop-place l = record {
  value : number_from l.radix l.value (codes_while (is_radix_digit l.radix) l.cursor)
      ≡ number_from l.radix 0 (codes_while (is_radix_digit l.radix) l.fn.cursor);
  rest : behind_while (is_radix_digit l.radix) l.cursor ≡ behind_while (is_radix_digit l.radix) l.fn.cursor;
  small : l.value ≤ 0x110000;
}

abbrev pub decreases-loop-place : goal.decreases-loop-place
decreases-loop-place l = length l.cursor
