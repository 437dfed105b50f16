use Rattle.std.proofs.lemmas.List.Edits.{map_over_more}
use Rattle.dom_edits.specs.Nodes.{renumbered, moved}
use Rattle.dom_edits.proofs.numbers.renumber_all.Goals as goal

pub loop-node-preserved : goal.loop-node-preserved
loop-node-preserved c =
    rw (c.renumber_one.ensures, ← c.node-item.is) (map_over_more (renumbered (moved c.args.from c.args.to)) c.args.nodes.now
    c.loop-node.nodes c.loop-node.node-index c.node-item.result c.loop-node-test.true c.loop-node.invariant c.node-item.is)
