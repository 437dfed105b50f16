use Rattle.std.specs.Prelude.{◌≡◌, drop}
use Rattle.doc_limits.specs.Tallies.{begun, run}
use Rattle.doc_limits.proofs.late.nests_of.Given as goal

abbrev pub invariant-loop-mark : goal.invariant-loop-mark
invariant-loop-mark l = run l.nests (drop l.mark-index l.marks) ≡ run begun l.marks
