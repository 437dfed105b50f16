-- Regions whose nodes name only nodes below them.
use Rattle.std.proofs.Common.{◌≡◌, ℕ, zero, suc, ◌⊎◌, inl, inr, List, [], ◌∷◌, ◌++◌, length, Some}
use Rattle.std.proofs.Common.{All, refl, ap, arith, slice_get, length-append, slice_index_or}
use Rattle.std.proofs.lemmas.List.Elements.{All-weaker}
use Rattle.mc_base.specs.declared.fragment.FragId.{FragId}
use Rattle.mc_base.specs.declared.fragment.FragId.TheVariants.{Kept, Trial}
use Rattle.mc_base.specs.declared.fragment.Node.{Node}
use Rattle.frag_pool.specs.Nodes.{Nodes, IsClosed, IsLive, IsKept, IsBelow, ids_of, kept_more, trial_more}

-- an element of a list with one more: one of the list, or the further one
pub get-more : {X : Type 0} (xs : List X) (y x : X) (n : ℕ) → slice_get (xs ++ y ∷ []) n ≡ Some x →
    (slice_get xs n ≡ Some x) ⊎ ((n ≡ length xs) × (y ≡ x))
get-more [] y x zero e = inr (refl, cc)
get-more [] y x (suc n) e = absurd (cc)
get-more (z ∷ xs) y x zero e = inl e
get-more (z ∷ xs) y x (suc n) e = elim (get-more xs y x n e) [ inl found ↦ inl found | inr last ↦ inr (ap suc last.0, last.1) ]

pub get-left : {X : Type 0} (xs ys : List X) (x : X) (n : ℕ) → slice_get xs n ≡ Some x → slice_get (xs ++ ys) n ≡ Some x
get-left [] ys x n e = absurd (cc)
get-left (z ∷ xs) ys x zero e = e
get-left (z ∷ xs) ys x (suc n) e = get-left xs ys x n e

pub get-last : {X : Type 0} (xs : List X) (y : X) → slice_get (xs ++ y ∷ []) (length xs) ≡ Some y
get-last [] y = refl
get-last (x ∷ xs) y = get-last xs y

-- kept nodes below are below whatever is added
kept-below-more : (p : Nodes) (n : ℕ) (node : Node) (ids : List FragId) → All (IsBelow p (Kept n)) ids →
    All (IsBelow (trial_more p node) (Kept n)) ids
kept-below-more p n node ids below = All-weaker (IsBelow p (Kept n)) (IsBelow (trial_more p node) (Kept n)) go ids below
  where
    go : (id : FragId) → IsBelow p (Kept n) id → IsBelow (trial_more p node) (Kept n) id
    go (Kept m) lt = lt
    go (Trial m) lt = lt

trial-below-more : (p : Nodes) (n : ℕ) (node : Node) (ids : List FragId) → All (IsBelow p (Trial n)) ids →
    All (IsBelow (trial_more p node) (Trial n)) ids
trial-below-more p n node ids below = All-weaker (IsBelow p (Trial n)) (IsBelow (trial_more p node) (Trial n)) go ids below
  where
    go : (id : FragId) → IsBelow p (Trial n) id → IsBelow (trial_more p node) (Trial n) id
    go (Kept m) lt = lt
    go (Trial m) lt = lt

live-below : (p : Nodes) (node : Node) (ids : List FragId) → All (IsLive p) ids →
    All (IsBelow (trial_more p node) (Trial (length p.trial))) ids
live-below p node ids live = All-weaker (IsLive p) (IsBelow (trial_more p node) (Trial (length p.trial))) go ids live
  where
    go : (id : FragId) → IsLive p id → IsBelow (trial_more p node) (Trial (length p.trial)) id
    go (Kept m) lt = lt
    go (Trial m) lt = lt

-- a further trial node
pub closed-trial_more : (p : Nodes) (node : Node) → IsClosed p → All (IsLive p) (ids_of node) → IsClosed (trial_more p node)
closed-trial_more p node closed live = record {
  kept = λ n other at. kept-below-more p n node (ids_of other) (closed.kept n other at);
  trial = λ n other at. one n other (get-more p.trial node other n at);
}
  where
    one : (n : ℕ) (other : Node) → (slice_get p.trial n ≡ Some other) ⊎ ((n ≡ length p.trial) × (node ≡ other)) →
        All (IsBelow (trial_more p node) (Trial n)) (ids_of other)
    one n other (inl at) = trial-below-more p n node (ids_of other) (closed.trial n other at)
    one n other (inr last) = rw (last.0, ← last.1) (live-below p node (ids_of node) live)

kept-in-more : (p : Nodes) (n : ℕ) (node : Node) (ids : List FragId) → All (IsBelow p (Kept n)) ids →
    All (IsBelow (kept_more p node) (Kept n)) ids
kept-in-more p n node ids below = All-weaker (IsBelow p (Kept n)) (IsBelow (kept_more p node) (Kept n)) go ids below
  where
    go : (id : FragId) → IsBelow p (Kept n) id → IsBelow (kept_more p node) (Kept n) id
    go (Kept m) lt = lt
    go (Trial m) lt = lt

trial-in-more : (p : Nodes) (n : ℕ) (node : Node) (ids : List FragId) → All (IsBelow p (Trial n)) ids →
    All (IsBelow (kept_more p node) (Trial n)) ids
trial-in-more p n node ids below = All-weaker (IsBelow p (Trial n)) (IsBelow (kept_more p node) (Trial n)) go ids below
  where
    go : (id : FragId) → IsBelow p (Trial n) id → IsBelow (kept_more p node) (Trial n) id
    go (Kept m) lt = omega (arith, length-append p.kept (node ∷ []))
    go (Trial m) lt = lt

kept-live : (p : Nodes) (node : Node) (ids : List FragId) → All (IsLive p) ids → All IsKept ids →
    All (IsBelow (kept_more p node) (Kept (length p.kept))) ids
kept-live p node ids live kept = λ k d lt. go (slice_index_or ids k d) (live k d lt) (kept k d lt)
  where
    go : (id : FragId) → IsLive p id → IsKept id → IsBelow (kept_more p node) (Kept (length p.kept)) id
    go (Kept m) lt is = lt
    go (Trial m) lt is = is

-- a further kept node
pub closed-kept_more : (p : Nodes) (node : Node) → IsClosed p → All (IsLive p) (ids_of node) → All IsKept (ids_of node) →
    IsClosed (kept_more p node)
closed-kept_more p node closed live kept = record {
  kept = λ n other at. one n other (get-more p.kept node other n at);
  trial = λ n other at. trial-in-more p n node (ids_of other) (closed.trial n other at);
}
  where
    one : (n : ℕ) (other : Node) → (slice_get p.kept n ≡ Some other) ⊎ ((n ≡ length p.kept) × (node ≡ other)) →
        All (IsBelow (kept_more p node) (Kept n)) (ids_of other)
    one n other (inl at) = kept-in-more p n node (ids_of other) (closed.kept n other at)
    one n other (inr last) = rw (last.0, ← last.1) (kept-live p node (ids_of node) live kept)
