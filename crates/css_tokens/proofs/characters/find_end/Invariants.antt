use Rattle.std.proofs.Common.{◌≡◌, length}
use Rattle.css_tokens.specs.Lexing.{from_end}
use Rattle.css_tokens.proofs.characters.find_end.Given as goal

abbrev pub invariant-loop-place : goal.invariant-loop-place
invariant-loop-place l = from_end l.cursor ≡ from_end l.fn.cursor

abbrev pub decreases-loop-place : goal.decreases-loop-place
decreases-loop-place l = length l.cursor
