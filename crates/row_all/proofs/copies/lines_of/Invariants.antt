use Rattle.std.proofs.Common.{◌≡◌, take}
use Rattle.row_all.proofs.copies.lines_of.Given as goal

abbrev pub invariant-loop-line : goal.invariant-loop-line
invariant-loop-line l = l.copy ≡ take l.line-index l.lines
