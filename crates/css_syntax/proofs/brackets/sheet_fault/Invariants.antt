use Rattle.std.proofs.Common.{◌≡◌, drop}
use Rattle.css_syntax.specs.Brackets.{stepped, nothing_open}
use Rattle.css_syntax.proofs.brackets.sheet_fault.Given as goal

abbrev pub invariant-loop-i : goal.invariant-loop-i
invariant-loop-i l = stepped l.state (drop l.i l.lexemes) ≡ stepped nothing_open l.lexemes
