use Rattle.std.proofs.Common.{◌≡◌, ◌++◌, drop}
use Rattle.std.specs.Prelude.{map}
use Rattle.css_syntax.specs.Tokens.{token_of}
use Rattle.css_syntax.proofs.tokens.tokens.Given as goal

abbrev pub invariant-loop-lexeme : goal.invariant-loop-lexeme
invariant-loop-lexeme l = l.all ++ map token_of (drop l.lexeme-index l.lexemes) ≡ map token_of l.lexemes
