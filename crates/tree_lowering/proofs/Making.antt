-- Fragments made one after another of others.
use Rattle.std.proofs.Common.{List, [], ◌∷◌, ◌++◌}
use Rattle.mc_base.specs.PlainTree.{PlainTree, PlainTrees, no_trees, more_trees}
use Rattle.mc_base.specs.declared.fragment.FragId.{FragId}
use Rattle.flow_list.specs.Data.{FlowsData}
use Rattle.frag_pool.specs.Growing.{Grows}
use Rattle.frag_pool.specs.Nodes.{Nodes}
use Rattle.frag_pool.specs.Standing.{StandsFor, AllStandFor}
use Rattle.frag_pool.proofs.Stays.{stands-growing}
use Rattle.piece_data.specs.Lowering.{Flags, lowered_in}
use Rattle.tree_lowering.specs.Lower.{AreMadeOf, IsMadeOf, all_lower, lower}
use Rattle.tree_lowering.specs.declared.cut.Within.{Within}

pub one-grows : (old p q : Nodes) (low : PlainTree → PlainTree) (id made : FragId) → Grows p q → IsMadeOf old p low id made →
    IsMadeOf old q low id made
one-grows old p q low id made grows is = λ tree stands. stands-growing p q grows made (low tree) (is tree stands)

pub one-before : (old p q : Nodes) (low : PlainTree → PlainTree) (id made : FragId) → Grows old p → IsMadeOf p q low id made →
    IsMadeOf old q low id made
one-before old p q low id made grows is = λ tree stands. is tree (stands-growing old p grows id tree stands)

pub made-grows : (old p q : Nodes) (low : PlainTree → PlainTree) (ids made : List FragId) → Grows p q →
    AreMadeOf old p low ids made → AreMadeOf old q low ids made
made-grows old p q low [] [] grows are = tt
made-grows old p q low [] (m ∷ made) grows are = absurd are
made-grows old p q low (i ∷ ids) [] grows are = absurd are
made-grows old p q low (i ∷ ids) (m ∷ made) grows are =
    (one-grows old p q low i m grows are.0, made-grows old p q low ids made grows are.1)

pub made-push : (old p : Nodes) (low : PlainTree → PlainTree) (ids made : List FragId) (id new : FragId) →
    AreMadeOf old p low ids made → IsMadeOf old p low id new → AreMadeOf old p low (ids ++ id ∷ []) (made ++ new ∷ [])
made-push old p low [] [] id new are is = (is, tt)
made-push old p low [] (m ∷ made) id new are is = absurd are
made-push old p low (i ∷ ids) [] id new are is = absurd are
made-push old p low (i ∷ ids) (m ∷ made) id new are is = (are.0, made-push old p low ids made id new are.1 is)

-- ids that stay as they are
pub made-same : (p : Nodes) (ids : List FragId) → AreMadeOf p p (λ tree. tree) ids ids
made-same p [] = tt
made-same p (i ∷ ids) = (λ tree stands. stands, made-same p ids)

pub same-trees : (p q : Nodes) (ids made : List FragId) (trees : PlainTrees) → AreMadeOf p q (λ tree. tree) ids made →
    AllStandFor p ids trees → AllStandFor q made trees
unfolding StandsFor
same-trees p q [] [] no_trees are stand = tt
same-trees p q [] [] (more_trees t ts) are stand = absurd stand
same-trees p q [] (m ∷ made) ts are stand = absurd are
same-trees p q (i ∷ ids) [] ts are stand = absurd are
same-trees p q (i ∷ ids) (m ∷ made) no_trees are stand = absurd stand
same-trees p q (i ∷ ids) (m ∷ made) (more_trees t ts) are stand =
    (are.0 t stand.0, same-trees p q ids made ts are.1 stand.1)

pub lowered-trees : (d : FlowsData) (flags : Flags) (at : Within) (p q : Nodes) (ids made : List FragId) (trees : PlainTrees) →
    AreMadeOf p q (lower d flags at) ids made → AllStandFor p ids trees → AllStandFor q made (all_lower d flags at trees)
unfolding StandsFor lowered_in
lowered-trees d flags at p q [] [] no_trees are stand = tt
lowered-trees d flags at p q [] [] (more_trees t ts) are stand = absurd stand
lowered-trees d flags at p q [] (m ∷ made) ts are stand = absurd are
lowered-trees d flags at p q (i ∷ ids) [] ts are stand = absurd are
lowered-trees d flags at p q (i ∷ ids) (m ∷ made) no_trees are stand = absurd stand
lowered-trees d flags at p q (i ∷ ids) (m ∷ made) (more_trees t ts) are stand =
    (are.0 t stand.0, lowered-trees d flags at p q ids made ts are.1 stand.1)
