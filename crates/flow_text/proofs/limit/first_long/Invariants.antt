use Rattle.std.proofs.Common.{◌≡◌, drop}
use Rattle.flow_text.specs.Limits.{first_long}
use Rattle.flow_text.proofs.limit.first_long.Given as goal

abbrev pub invariant-loop-line : goal.invariant-loop-line
invariant-loop-line l = first_long (drop l.line-index l.lines) ≡ first_long l.lines
