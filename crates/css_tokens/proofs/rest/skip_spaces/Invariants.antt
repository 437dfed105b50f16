use Rattle.std.proofs.Common.{◌≡◌, length}
use Rattle.css_tokens.specs.Facts.{behind_spaces}
use Rattle.css_tokens.proofs.rest.skip_spaces.Given as goal

abbrev pub invariant-loop-lexeme : goal.invariant-loop-lexeme
invariant-loop-lexeme l = behind_spaces l.rest ≡ behind_spaces l.fn.rest

abbrev pub decreases-loop-lexeme : goal.decreases-loop-lexeme
decreases-loop-lexeme l = length l.rest
