use Rattle.std.proofs.Common.{◌≡◌, [], drop}
use Rattle.css_prelude.specs.Nth.{text_from}
use Rattle.css_prelude.proofs.nth.text_of.Given as goal

abbrev pub invariant-loop-lexeme : goal.invariant-loop-lexeme
invariant-loop-lexeme l = text_from l.text (drop l.lexeme-index l.arguments) ≡ text_from [] l.arguments
