use Rattle.std.proofs.Common.{◌≡◌, ◌+◌, drop}
use Rattle.css_prelude.specs.Nth.{digits_len}
use Rattle.css_prelude.proofs.nth.digits_len.Given as goal

abbrev pub invariant-loop-i : goal.invariant-loop-i
invariant-loop-i l = l.i + digits_len (drop l.i l.text) ≡ digits_len l.text
