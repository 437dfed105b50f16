use Rattle.std.proofs.Common.{All}
use Rattle.frag_pool.specs.Nodes.{IsLive, ids_of}
use Rattle.frag_pool.proofs.Closed.{closed-kept_more}
use Rattle.frag_pool.proofs.pool.Pool.keep.Goals as goal

pub invariant_of-self-2 : goal.invariant_of-self-2
invariant_of-self-2 c =
    let live : All (IsLive (record { kept = c.self.inside.kept; trial = c.self.inside.trial })) (ids_of c.args.node) =
    rw
    c.self.view_is c.requires.live in
    rw c.in_ok-push.ensures.ok (closed-kept_more _ c.args.node c.self.invariant live c.requires.kept)
