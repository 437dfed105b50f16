-- A row piece that is made again with a height.
use Rattle.std.proofs.Common.{◌≡◌, ℕ, List, length, Some, None, sym, ◌∙◌, ap, subst}
use Rattle.mc_base.specs.PlainTree.{PlainTrees, row_piece}
use Rattle.mc_base.specs.declared.fragment.FragId.{FragId}
use Rattle.mc_base.specs.declared.fragment.FragId.TheVariants.{Trial}
use Rattle.mc_base.specs.declared.fragment.Node.{Node}
use Rattle.mc_base.specs.declared.fragment.Node.TheVariants.{RowPiece}
use Rattle.flow_list.specs.Tokens.{Token}
use Rattle.frag_pool.specs.Nodes.{Nodes, ids_of, node_of, trial_more}
use Rattle.frag_pool.specs.Standing.{AllStandFor, StandsFor}
use Rattle.frag_pool.proofs.Stays.{all-along, keeps-growing}
use Rattle.frag_maker.proofs.Growing.{grows-trial, trial-node}

pub with-height : (p q : Nodes) (piece : FragId) (r : ℕ) (from start : Token) (height : ℕ) (node : Node) (ids : List FragId)
    (trees : PlainTrees) → node_of p piece ≡ Some node → ids ≡ ids_of node → start ≡ from →
    q ≡ trial_more p (RowPiece r start 0 (Some height) ids) → StandsFor p piece (row_piece r from 0 None trees) →
    StandsFor q (Trial (length p.trial)) (row_piece r from 0 (Some height) trees)
unfolding StandsFor
with-height p q piece r from start height node ids trees at ids_are is more s =
    let same : node ≡ RowPiece r from 0 None s.0 = cc in
    let own : ids ≡ s.0 = ids_are ∙ ap ids_of same in (
      ids,
      trial-node p q _ more ∙ ap (λ t. Some (RowPiece r t 0 (Some height) ids)) is,
      all-along p q (keeps-growing p q (grows-trial p q _ more)) ids trees (subst (λ i. AllStandFor p i trees) (sym own) s.2),
    )
