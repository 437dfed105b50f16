-- A region after one call and another, and after its trial nodes are given up.
use Rattle.std.proofs.Common.{◌≡◌, ℕ, List, [], ◌∷◌, ◌++◌, length, take, Some, refl, sym, ◌∙◌, ap, append_assoc}
use Rattle.std.proofs.lemmas.List.{append-nil}
use Rattle.std.proofs.lemmas.Option.{slice_get_within}
use Rattle.mc_base.specs.PlainTree.{PlainTree, atom, piece, row_piece, column}
use Rattle.mc_base.specs.declared.fragment.FragId.{FragId}
use Rattle.mc_base.specs.declared.fragment.FragId.TheVariants.{Kept, Trial}
use Rattle.mc_base.specs.declared.fragment.Node.{Node}
use Rattle.frag_pool.specs.Growing.{Grows, KeptGrows}
use Rattle.frag_pool.specs.Nodes.{Nodes, IsLive, SameTrial, back_to, node_of}
use Rattle.frag_pool.specs.Standing.{StandsFor}
use Rattle.frag_pool.proofs.Stays.{stands-growing}

joined : {X : Type 0} (a b c more rest : List X) → b ≡ a ++ more → c ≡ b ++ rest → c ≡ a ++ (more ++ rest)
joined a b c more rest s t = t ∙ ap (λ xs. xs ++ rest) s ∙ append_assoc a more rest

pub same-trial-refl : (p : Nodes) → SameTrial p p
same-trial-refl p = record { more_kept = []; kept = sym (append-nil p.kept); trial = refl }

pub same-trial-trans : (p q r : Nodes) → SameTrial p q → SameTrial q r → SameTrial p r
same-trial-trans p q r s t = record {
  more_kept = s.more_kept ++ t.more_kept;
  kept = joined p.kept q.kept r.kept s.more_kept t.more_kept s.kept t.kept;
  trial = t.trial ∙ s.trial;
}

pub grows-same-trial : (p q : Nodes) → SameTrial p q → Grows p q
grows-same-trial p q s = record {
  more_kept = s.more_kept;
  more_trial = [];
  kept = s.kept;
  trial = s.trial ∙ sym (append-nil p.trial);
}

pub grows-refl : (p : Nodes) → Grows p p
grows-refl p = grows-same-trial p p (same-trial-refl p)

pub grows-trans : (p q r : Nodes) → Grows p q → Grows q r → Grows p r
grows-trans p q r s t = record {
  more_kept = s.more_kept ++ t.more_kept;
  more_trial = s.more_trial ++ t.more_trial;
  kept = joined p.kept q.kept r.kept s.more_kept t.more_kept s.kept t.kept;
  trial = joined p.trial q.trial r.trial s.more_trial t.more_trial s.trial t.trial;
}

pub kept-grows-refl : (p : Nodes) → KeptGrows p p
kept-grows-refl p = record { more_kept = []; kept = sym (append-nil p.kept) }

pub kept-grows-trans : (p q r : Nodes) → KeptGrows p q → KeptGrows q r → KeptGrows p r
kept-grows-trans p q r s t = record {
  more_kept = s.more_kept ++ t.more_kept;
  kept = joined p.kept q.kept r.kept s.more_kept t.more_kept s.kept t.kept;
}

pub kept-grows-grows : (p q : Nodes) → Grows p q → KeptGrows p q
kept-grows-grows p q s = record { more_kept = s.more_kept; kept = s.kept }

-- ---- trial nodes that are given up

take-first : {X : Type 0} (xs ys : List X) → take (length xs) (xs ++ ys) ≡ xs
take-first [] ys = refl
take-first (x ∷ xs) ys = ap (λ zs. x ∷ zs) (take-first xs ys)

-- a region that grew, back to where it was
pub given-up : (p q r : Nodes) (n : ℕ) → n ≡ length p.trial → Grows p q → r ≡ back_to q n → SameTrial p r
given-up p q r n is grows back = record {
  more_kept = grows.more_kept;
  kept = ap (λ (p : Nodes). p.kept) back ∙ grows.kept;
  trial = ap (λ (p : Nodes). p.trial) back ∙ rw (is, grows.trial) (take-first p.trial grows.more_trial);
}

pub given-up-kept : (q r : Nodes) (n : ℕ) → r ≡ back_to q n → KeptGrows q r
given-up-kept q r n back = record { more_kept = []; kept = ap (λ (p : Nodes). p.kept) back ∙ sym (append-nil q.kept) }

-- ---- what stands

-- an id of a node is live
pub node-of-live : (p : Nodes) (id : FragId) (node : Node) → node_of p id ≡ Some node → IsLive p id
node-of-live p (Kept n) node at = slice_get_within p.kept n node at
node-of-live p (Trial n) node at = slice_get_within p.trial n node at

-- an id that stands for a tree is live
pub stands-live : (p : Nodes) (id : FragId) (tree : PlainTree) → StandsFor p id tree → IsLive p id
unfolding StandsFor
stands-live p id (atom item y) s = node-of-live p id _ s
stands-live p id (piece owner starts y bottom kids) s = node-of-live p id _ s.1
stands-live p id (row_piece row from y height columns) s = node-of-live p id _ s.1
stands-live p id (column flow from end extent kids) s = node-of-live p id _ s.1

-- what stands for a tree by kept nodes alone does so in a region with more of them, whatever its trial nodes are
pub stands-kept : (p q : Nodes) → KeptGrows p q → (id : FragId) (tree : PlainTree) → StandsFor (back_to p 0) id tree →
    StandsFor (back_to q 0) id tree
stands-kept p q grows = stands-growing (back_to p 0) (back_to q 0) (record {
  more_kept = grows.more_kept;
  more_trial = [];
  kept = grows.kept;
  trial = no-trial q.trial ∙ sym (append-nil (take 0 p.trial) ∙ no-trial p.trial);
})
  where
    no-trial : (xs : List Node) → take 0 xs ≡ []
    no-trial xs = refl

-- and so does in the region itself
pub stands-kept-here : (p : Nodes) (id : FragId) (tree : PlainTree) → StandsFor (back_to p 0) id tree → StandsFor p id tree
stands-kept-here p = stands-growing (back_to p 0) p (record {
  more_kept = [];
  more_trial = p.trial;
  kept = sym (append-nil p.kept);
  trial = refl;
})
