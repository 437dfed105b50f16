use Rattle.std.proofs.Common.{◌≡◌, ◌++◌, take, drop}
use Rattle.std.specs.Prelude.{map}
use Rattle.dom_edits.specs.Nodes.{renumbered, moved}
use Rattle.dom_edits.proofs.numbers.renumber_all.Given as goal

abbrev pub invariant-loop-node : goal.invariant-loop-node
invariant-loop-node l =
    l.nodes ≡ map (renumbered (moved l.from l.to)) (take l.node-index l.fn.nodes) ++ drop l.node-index l.fn.nodes
