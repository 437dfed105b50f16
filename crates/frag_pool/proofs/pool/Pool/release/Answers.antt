use Rattle.std.proofs.Common.{refl}
use Rattle.frag_pool.specs.Nodes.{IsClosed}
use Rattle.frag_pool.proofs.Trees.{stands-after}
use Rattle.frag_pool.proofs.pool.Pool.release.Goals as goal

pub returns-clause-stands : goal.returns-clause-stands
returns-clause-stands c =
    let closed : IsClosed c.args.self.now = rw c.self.view_is at c.self.invariant in
    stands-after c.args.self.now _ c.args.mark.now.trial closed (rw (c.truncate.ensures, ← c.self.view_is) refl)
