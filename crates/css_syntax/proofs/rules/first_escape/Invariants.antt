use Rattle.std.proofs.Common.{◌≡◌, drop}
use Rattle.css_syntax.specs.Rules.{first_escape}
use Rattle.css_syntax.proofs.rules.first_escape.Given as goal

abbrev pub invariant-loop-lexeme : goal.invariant-loop-lexeme
invariant-loop-lexeme l = first_escape (drop l.lexeme-index l.lexemes) ≡ first_escape l.lexemes
