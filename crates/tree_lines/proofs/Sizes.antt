-- How much is left of a walk over the nodes of a region.
use Rattle.std.proofs.Common.{◌≡◌, ℕ, ◌+◌, ◌*◌, ◌-◌, ◌<◌, length, arith}
use Rattle.frag_pool.specs.Nodes.{Nodes, IsLive, IsBelow}
use Rattle.frag_pool.proofs.Trees.{rank_of}
use Rattle.mc_base.specs.declared.fragment.FragId.{FragId}
use Rattle.mc_base.specs.declared.fragment.FragId.TheVariants.{Kept, Trial}

-- more than is left at any node, where no stack stands inside
abbrev pub node_work : Nodes → ℕ
node_work p = 4 * (length p.kept + length p.trial) + 4

-- what is left where at most n stacks stand one in another
abbrev pub stack_work : Nodes → ℕ → ℕ
stack_work p n = n * node_work p

pub rank-live : (p : Nodes) (id : FragId) → IsLive p id → rank_of p id < length p.kept + length p.trial
rank-live p (Kept n) live = omega arith
rank-live p (Trial n) live = omega arith

pub below-live : (p : Nodes) (id kid : FragId) → IsLive p id → IsBelow p id kid → IsLive p kid
below-live p (Kept n) (Kept m) live below = omega arith
below-live p (Kept n) (Trial m) live below = absurd below
below-live p (Trial n) (Kept m) live below = below
below-live p (Trial n) (Trial m) live below = omega arith

pub below-rank : (p : Nodes) (id kid : FragId) → IsLive p id → IsBelow p id kid → rank_of p kid < rank_of p id
below-rank p (Kept n) (Kept m) live below = below
below-rank p (Kept n) (Trial m) live below = absurd below
below-rank p (Trial n) (Kept m) live below = omega arith
below-rank p (Trial n) (Trial m) live below = omega arith

work-of : (p : Nodes) (n m : ℕ) → n ≡ m + 1 → stack_work p m + node_work p ≡ stack_work p n
work-of p n m e = rw e (omega arith)

-- with one stack less inside there is as much less to do
pub work-less : (p : Nodes) (n : ℕ) → 0 < n → stack_work p (n - 1) + node_work p ≡ stack_work p n
work-less p n some = work-of p n (n - 1) (omega arith)
