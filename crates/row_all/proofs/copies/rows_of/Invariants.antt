use Rattle.std.proofs.Common.{◌≡◌, take}
use Rattle.row_all.proofs.copies.rows_of.Given as goal

abbrev pub invariant-loop-row : goal.invariant-loop-row
invariant-loop-row l = l.copy ≡ take l.row-index l.rows
