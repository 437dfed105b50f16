use Rattle.std.proofs.Common.{◌≡◌, ◌++◌}
use Rattle.column_row.proofs.adding.joined.Given as goal

abbrev pub invariant-loop-line : goal.invariant-loop-line
invariant-loop-line l = l.lines ≡ l.initial.lines ++ l.yielded
