use Rattle.std.proofs.Common.{◌≡◌, length}
use Rattle.html_grammar.specs.Lexing.{from_text}
use Rattle.html_subset.proofs.tokens.find_text.Given as goal

abbrev pub invariant-loop-place : goal.invariant-loop-place
invariant-loop-place l = from_text l.wanted l.cursor ≡ from_text l.wanted l.fn.cursor

abbrev pub decreases-loop-place : goal.decreases-loop-place
decreases-loop-place l = length l.cursor
