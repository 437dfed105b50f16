use Rattle.frag_maker.proofs.Closing.{NotClosedBefore}
use Rattle.frag_maker.proofs.build.close_of.Given as goal

abbrev pub invariant-loop-i : goal.invariant-loop-i
invariant-loop-i l = NotClosedBefore l.number l.placed l.i
