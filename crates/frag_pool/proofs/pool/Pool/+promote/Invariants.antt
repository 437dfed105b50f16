use Rattle.frag_pool.specs.Nodes.{IsLive}
use Rattle.frag_pool.proofs.Promoting.{steps_up, ids_at, IsPromoting}
use Rattle.frag_pool.proofs.pool.Pool.+promote.Given as goal

abbrev pub decreases-promote : goal.decreases-promote
decreases-promote l = steps_up l.id

abbrev pub invariant-loop-i : goal.invariant-loop-i
invariant-loop-i l = record { so_far : IsPromoting l.fn.self (ids_at l.fn.self l.id) l.i l.self l.ids; live : IsLive l.self l.id }
