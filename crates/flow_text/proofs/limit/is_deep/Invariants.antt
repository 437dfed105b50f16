use Rattle.std.proofs.Common.{◌≡◌, ◌≤◌, drop}
use Rattle.flow_text.specs.Limits.{is_deep}
use Rattle.flow_text.proofs.limit.is_deep.Given as goal

abbrev pub invariant-loop-line : goal.invariant-loop-line
invariant-loop-line l = record { few : l.rows ≤ 3; same : is_deep l.rows (drop l.line-index l.lines) ≡ is_deep 0 l.lines }
