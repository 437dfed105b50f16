-- A region that grows: what was live stays so, and ids in a live node are live.
use Rattle.std.proofs.Common.{◌≡◌, List, [], ◌∷◌, length, Some, sym, ◌∙◌, ap, arith}
use Rattle.std.proofs.Common.{All, length-append}
use Rattle.std.proofs.lemmas.List.{append-nil}
use Rattle.std.proofs.lemmas.List.Elements.{All-cons, All-nil, All-weaker}
use Rattle.mc_base.specs.PlainTree.{PlainTrees, no_trees, more_trees}
use Rattle.mc_base.specs.declared.fragment.FragId.{FragId}
use Rattle.mc_base.specs.declared.fragment.FragId.TheVariants.{Kept, Trial}
use Rattle.mc_base.specs.declared.fragment.Node.{Node}
use Rattle.frag_pool.specs.Nodes.{Nodes, IsBelow, IsLive, node_of, trial_more}
use Rattle.frag_pool.proofs.Closed.{get-last}
use Rattle.frag_pool.specs.Growing.{Grows}
use Rattle.frag_pool.proofs.Growth.{stands-live}
use Rattle.frag_pool.specs.Standing.{StandsFor, AllStandFor}

pub grows-same : (p q : Nodes) → q ≡ p → Grows p q
grows-same p q e = record {
  more_kept = [];
  more_trial = [];
  kept = ap (λ (p : Nodes). p.kept) e ∙ sym (append-nil p.kept);
  trial = ap (λ (p : Nodes). p.trial) e ∙ sym (append-nil p.trial);
}

pub grows-trial : (p q : Nodes) (node : Node) → q ≡ trial_more p node → Grows p q
grows-trial p q node e = record {
  more_kept = [];
  more_trial = node ∷ [];
  kept = ap (λ (p : Nodes). p.kept) e ∙ sym (append-nil p.kept);
  trial = ap (λ (p : Nodes). p.trial) e;
}

pub live-grows : (p q : Nodes) → Grows p q → (id : FragId) → IsLive p id → IsLive q id
live-grows p q g (Kept n) lt = rw g.kept (omega (arith, length-append p.kept g.more_kept))
live-grows p q g (Trial n) lt = rw g.trial (omega (arith, length-append p.trial g.more_trial))

pub trial-node : (p q : Nodes) (node : Node) → q ≡ trial_more p node → node_of q (Trial (length p.trial)) ≡ Some node
trial-node p q node e = rw e (get-last p.trial node)

pub trial-live : (p q : Nodes) (node : Node) → q ≡ trial_more p node → IsLive q (Trial (length p.trial))
trial-live p q node e = rw e (omega (arith, length-append p.trial (node ∷ [])))

-- an id below a live one is live
below-live : (p : Nodes) (id : FragId) → IsLive p id → (kid : FragId) → IsBelow p id kid → IsLive p kid
below-live p (Kept n) live (Kept m) below = omega arith
below-live p (Kept n) live (Trial m) below = absurd below
below-live p (Trial n) live (Kept m) below = below
below-live p (Trial n) live (Trial m) below = omega arith

pub all-live : (p : Nodes) (id : FragId) → IsLive p id → (ids : List FragId) → All (IsBelow p id) ids → All (IsLive p) ids
all-live p id live ids below = All-weaker (IsBelow p id) (IsLive p) (below-live p id live) ids below

-- ids that stand for trees are live
pub they-live : (p : Nodes) (ids : List FragId) (trees : PlainTrees) → AllStandFor p ids trees → All (IsLive p) ids
unfolding StandsFor
they-live p [] no_trees s = All-nil (IsLive p)
they-live p [] (more_trees first rest) s = absurd s
they-live p (id ∷ ids) no_trees s = absurd s
they-live p (id ∷ ids) (more_trees first rest) s =
    All-cons (IsLive p) id ids (stands-live p id first s.0) (they-live p ids rest s.1)
