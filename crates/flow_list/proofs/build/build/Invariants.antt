use Rattle.flow_list.proofs.Built.{AreBuilt}
use Rattle.flow_list.proofs.build.build.Given as goal

abbrev pub invariant-loop-line : goal.invariant-loop-line
invariant-loop-line l = AreBuilt l.lines l.line-index l.parts
