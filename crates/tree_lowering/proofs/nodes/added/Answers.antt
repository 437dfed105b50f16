use Rattle.frag_maker.proofs.Growing.{grows-same, grows-trial, trial-live, trial-node}
use Rattle.tree_lowering.proofs.nodes.added.Goals as goal

pub returns-clause-node : goal.returns-clause-node
returns-clause-node c = rw c.in_ok-made.ensures.id (trial-node c.args.pool.now c.add_node.new.pool _ c.in_ok-made.ensures.ok)

pub returns-clause-live : goal.returns-clause-live
returns-clause-live c = rw c.in_ok-made.ensures.id (trial-live c.args.pool.now c.add_node.new.pool _ c.in_ok-made.ensures.ok)

pub returns-clause-grown : goal.returns-clause-grown
returns-clause-grown c = grows-trial c.args.pool.now c.add_node.new.pool _ c.in_ok-made.ensures.ok

pub returns-in_err-made-clause-grown : goal.returns-in_err-made-clause-grown
returns-in_err-made-clause-grown c = grows-same c.args.pool.now c.add_node.new.pool c.in_err-made.ensures.err
