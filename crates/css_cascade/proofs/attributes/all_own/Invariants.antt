use Rattle.std.proofs.Common.{take}
use Rattle.css_cascade.proofs.AttributeLemmas.{AreRead}
use Rattle.css_cascade.proofs.attributes.all_own.Given as goal

abbrev pub invariant-loop-node : goal.invariant-loop-node
invariant-loop-node l = AreRead l.found (take l.node-index l.nodes)
