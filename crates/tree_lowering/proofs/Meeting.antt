-- What was met of trees so far.
use Rattle.std.proofs.Common.{◌≡◌, ℕ, List, [], ◌∷◌, ◌++◌, refl, sym, ap, ◌∙◌, append_assoc}
use Rattle.std.proofs.lemmas.List.{append-nil}
use Rattle.mc_base.specs.PlainTree.{PlainTrees, no_trees, more_trees}
use Rattle.mc_base.specs.declared.fragment.FragId.{FragId}
use Rattle.flow_list.specs.Data.{FlowsData}
use Rattle.frag_pool.specs.Growing.{Grows}
use Rattle.frag_pool.specs.Nodes.{Nodes}
use Rattle.frag_pool.specs.Standing.{StandsFor, AllStandFor}
use Rattle.frag_pool.proofs.Stays.{stands-growing}
use Rattle.piece_data.specs.Lowering.{CutPiece, Flags, pieces_in}
use Rattle.tree_lowering.specs.Lower.{all_pieces, pieces}
use Rattle.tree_lowering.specs.Met.{Met, MeetsTree, MeetsTrees, all_met, one_met}
use Rattle.tree_lowering.specs.declared.cut.Within.{Within}

-- Trees are left, the pieces of which are those that are still to be met.
pub record Left (d : FlowsData) (flags : Flags) (at : Within) (p : Nodes) (old new : List Met) (rest : List FragId)
    (trees : PlainTrees) : Type 0 where
  pub left : PlainTrees
  pub stand : AllStandFor p rest left
  pub met : (stacks : ℕ → List CutPiece) →
      all_met stacks new ++ all_pieces d flags at stacks left ≡ all_met stacks old ++ all_pieces d flags at stacks trees

abbrev pub MetSoFar : FlowsData → Flags → Within → Nodes → (old new : List Met) → (ids rest : List FragId) → Type 0
MetSoFar d flags at p old new ids rest = (trees : PlainTrees) → AllStandFor p ids trees → Left d flags at p old new rest trees

pub none-met : (d : FlowsData) (flags : Flags) (at : Within) (p : Nodes) (old : List Met) (ids : List FragId) →
    MetSoFar d flags at p old old ids ids
none-met d flags at p old ids = λ trees stand. record { left = trees; stand = stand; met = λ stacks. refl }

left-more : (d : FlowsData) (flags : Flags) (at : Within) (p q : Nodes) (old new newer : List Met) (id : FragId)
    (rest : List FragId) (trees left : PlainTrees) → Grows p q → MeetsTree q new newer (pieces d flags at) id →
    AllStandFor p (id ∷ rest) left →
    ((stacks : ℕ → List CutPiece) →
    all_met stacks new ++ all_pieces d flags at stacks left ≡ all_met stacks old ++ all_pieces d flags at stacks trees) →
    Left d flags at p old newer rest trees
unfolding StandsFor pieces_in
left-more d flags at p q old new newer id rest trees no_trees grows meets stand met = absurd stand
left-more d flags at p q old new newer id rest trees (more_trees t ts) grows meets stand met = record {
  left = ts;
  stand = stand.1;
  met = λ stacks. ap (λ xs. xs ++ all_pieces d flags at stacks ts) (meets t (stands-growing p q grows id t stand.0) stacks)
      ∙ append_assoc (all_met stacks new) (pieces d flags at stacks t) (all_pieces d flags at stacks ts) ∙ met stacks;
}

pub one-more : (d : FlowsData) (flags : Flags) (at : Within) (p q : Nodes) (old new newer : List Met) (ids : List FragId)
    (id : FragId) (rest : List FragId) → Grows p q → MeetsTree q new newer (pieces d flags at) id →
    MetSoFar d flags at p old new ids (id ∷ rest) → MetSoFar d flags at p old newer ids rest
one-more d flags at p q old new newer ids id rest grows meets so_far = λ trees stand.
    let l = so_far trees stand in
    left-more d flags at p q old new newer id rest trees l.left grows meets l.stand l.met

none-left : (d : FlowsData) (flags : Flags) (at : Within) (p : Nodes) (left : PlainTrees) → AllStandFor p [] left →
    (stacks : ℕ → List CutPiece) → all_pieces d flags at stacks left ≡ []
unfolding StandsFor pieces_in
none-left d flags at p no_trees stand stacks = refl
none-left d flags at p (more_trees t ts) stand stacks = absurd stand

pub met-all : (d : FlowsData) (flags : Flags) (at : Within) (p : Nodes) (old new : List Met) (ids : List FragId) →
    MetSoFar d flags at p old new ids [] → MeetsTrees p old new (all_pieces d flags at) ids
met-all d flags at p old new ids so_far = λ trees stand stacks.
    let l = so_far trees stand in
    sym (append-nil (all_met stacks new))
    ∙ ap (λ xs. all_met stacks new ++ xs) (sym (none-left d flags at p l.left l.stand stacks)) ∙ l.met stacks

pub met-push : (stacks : ℕ → List CutPiece) (old : List Met) (m : Met) →
    all_met stacks (old ++ m ∷ []) ≡ all_met stacks old ++ one_met stacks m
met-push stacks [] m = append-nil (one_met stacks m)
met-push stacks (x ∷ old) m =
    ap (λ xs. one_met stacks x ++ xs) (met-push stacks old m)
    ∙ sym (append_assoc (one_met stacks x) (all_met stacks old) (one_met stacks m))
