use Rattle.std.proofs.Common.{◌≡◌, drop}
use Rattle.flow_text.specs.Limits.{has_crowded_row, no_counts}
use Rattle.flow_text.proofs.limit.has_crowded_row.Given as goal

abbrev pub invariant-loop-line : goal.invariant-loop-line
invariant-loop-line l = has_crowded_row l.counts (drop l.line-index l.lines) ≡ has_crowded_row no_counts l.lines
