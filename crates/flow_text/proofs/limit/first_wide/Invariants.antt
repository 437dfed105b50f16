use Rattle.std.proofs.Common.{◌≡◌, drop}
use Rattle.flow_text.specs.Limits.{first_wide}
use Rattle.flow_text.proofs.limit.first_wide.Given as goal

abbrev pub invariant-loop-line : goal.invariant-loop-line
invariant-loop-line l = first_wide (drop l.line-index l.lines) ≡ first_wide l.lines
