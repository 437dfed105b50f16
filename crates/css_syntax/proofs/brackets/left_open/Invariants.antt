use Rattle.std.proofs.Common.{◌≡◌, drop}
use Rattle.css_syntax.specs.Brackets.{left_open}
use Rattle.css_syntax.proofs.brackets.left_open.Given as goal

abbrev pub invariant-loop-open : goal.invariant-loop-open
invariant-loop-open l = left_open l.first (drop l.open-index l.opens) ≡ left_open l.fn.fault l.opens
