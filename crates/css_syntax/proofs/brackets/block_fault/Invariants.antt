use Rattle.std.proofs.Common.{◌≡◌, drop}
use Rattle.css_syntax.specs.Brackets.{bracketed, nothing_open}
use Rattle.css_syntax.proofs.brackets.block_fault.Given as goal

abbrev pub invariant-loop-lexeme : goal.invariant-loop-lexeme
invariant-loop-lexeme l = bracketed l.state (drop l.lexeme-index l.lexemes) ≡ bracketed nothing_open l.lexemes
