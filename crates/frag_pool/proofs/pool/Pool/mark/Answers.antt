use Rattle.frag_pool.specs.Nodes.{IsClosed}
use Rattle.frag_pool.proofs.Trees.{stands-exists}
use Rattle.frag_pool.proofs.pool.Pool.mark.Goals as goal

pub returns-clause-stands : goal.returns-clause-stands
returns-clause-stands c =
    let closed : IsClosed c.args.self.now = rw c.self.view_is at c.self.invariant in
    stands-exists c.args.self.now closed
