use Rattle.std.proofs.Common.{◌≡◌, ◌+◌, drop}
use Rattle.dom_edits.specs.Nodes.{inside_len}
use Rattle.dom_edits.proofs.finding.inside_len.Given as goal

abbrev pub invariant-loop-i : goal.invariant-loop-i
invariant-loop-i l = l.i + inside_len l.start (drop l.i l.nodes) ≡ inside_len l.start l.nodes
