-- A piece of a row with the columns of another one.
use Rattle.std.proofs.Common.{◌≡◌, ℕ, List, Option, Some, ◌∙◌, ap, length}
use Rattle.mc_base.specs.PlainTree.{PlainTrees, row_piece}
use Rattle.mc_base.specs.declared.fragment.FragId.{FragId}
use Rattle.mc_base.specs.declared.fragment.FragId.TheVariants.{Trial}
use Rattle.mc_base.specs.declared.fragment.Node.{Node}
use Rattle.mc_base.specs.declared.fragment.Node.TheVariants.{RowPiece as RowNode}
use Rattle.flow_list.specs.Tokens.{Token, row_start}
use Rattle.frag_pool.specs.Nodes.{Nodes, ids_of, node_of, trial_more}
use Rattle.frag_pool.specs.Standing.{StandsFor}
use Rattle.frag_pool.proofs.Stays.{all-along, keeps-growing}
use Rattle.frag_maker.proofs.Growing.{grows-trial, trial-node}

pub piece-stands : (p q : Nodes) (id : FragId) (r : ℕ) (own height : Option ℕ) (node : Node) (start : Token) (ids : List FragId)
    (columns : PlainTrees) → node_of p id ≡ Some node → start ≡ row_start → ids ≡ ids_of node →
    q ≡ trial_more p (RowNode r start 0 height ids) → StandsFor p id (row_piece r row_start 0 own columns) →
    StandsFor q (Trial (length p.trial)) (row_piece r row_start 0 height columns)
unfolding StandsFor
piece-stands p q id r own height node start ids columns at from is more stands =
    let there : node ≡ RowNode r row_start 0 own stands.0 = cc in
    let same : ids ≡ stands.0 = is ∙ ap ids_of there in (
      stands.0,
      trial-node p q _ more ∙ ap (λ t. Some (RowNode r t 0 height ids)) from
          ∙ ap (λ ks. Some (RowNode r row_start 0 height ks)) same,
      all-along p q (keeps-growing p q (grows-trial p q _ more)) stands.0 columns stands.2,
    )
