use Rattle.std.proofs.Common.{◌≡◌, drop}
use Rattle.flow_text.specs.Text.{first_bad}
use Rattle.flow_text.proofs.cut.bad_byte.Given as goal

abbrev pub invariant-loop-i : goal.invariant-loop-i
invariant-loop-i l = first_bad l.i (drop l.i l.bytes) ≡ first_bad 0 l.bytes
