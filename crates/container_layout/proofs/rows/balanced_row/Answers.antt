use Rattle.std.proofs.Common.{◌∙◌, ap, subst}
use Rattle.mc_base.specs.PlainTree.{PlainTree}
use Rattle.flow_data.specs.Flows.{flow_in}
use Rattle.flow_list.specs.Book.{after_uses}
use Rattle.flow_list.specs.Entries.{uses_in}
use Rattle.flow_list.specs.Ranges.{ranges}
use Rattle.flow_list.specs.RowHeights.{balanced_fits, balanced_height, size_of}
use Rattle.flow_list.specs.Rows.{all_rows}
use Rattle.frag_pool.specs.Standing.{StandsFor}
use Rattle.frag_pool.proofs.Growth.{grows-same-trial}
use Rattle.balancer.specs.Balancing.{balanced_uses}
use Rattle.container_layout.proofs.RowParts.{balanced-fitting, balanced-height, balanced-ranges, balanced-tree, balanced-used}
use Rattle.container_layout.proofs.RowParts.{inner-nests, start-place}
use Rattle.container_layout.proofs.rows.balanced_row.Goals as goal

pub least-requires-clause-place : goal.least-requires-clause-place
least-requires-clause-place g c =
    rw c.start-start.ensures (start-place c.args.flows.now (flow_in c.args.flows.now c.args.row))

pub least-requires-clause-nests : goal.least-requires-clause-nests
least-requires-clause-nests g c =
    inner-nests c.args.flows.now c.flow_counts-counts.ensures.sound c.args.row c.requires.row _ c.requires.depth

pub returns-clause-height : goal.returns-clause-height
returns-clause-height g c =
    let d = c.args.flows.now in
    c.in_ok-made.ensures.least.height ∙ ap (λ q. balanced_height c.args.available (size_of d c.args.row q)) c.start-start.ensures
    ∙ balanced-height d c.flow_counts-counts.ensures.sound c.args.row c.requires.row c.requires.balanced c.args.available

pub returns-clause-fits : goal.returns-clause-fits
returns-clause-fits g c =
    let d = c.args.flows.now in
    c.in_ok-made.ensures.least.fits ∙ ap (λ q. balanced_fits c.args.available (size_of d c.args.row q)) c.start-start.ensures
    ∙ balanced-fitting d c.flow_counts-counts.ensures.sound c.args.row c.requires.row c.requires.balanced c.args.available

pub returns-clause-ranges : goal.returns-clause-ranges
returns-clause-ranges g c =
    let d = c.args.flows.now in
    c.in_ok-made.ensures.least.rejected ∙ ap (λ q. ranges (all_rows d) d c.args.row q c.args.available) c.start-start.ensures
    ∙ balanced-ranges d c.flow_counts-counts.ensures.sound c.args.row c.requires.row c.requires.balanced c.args.available

pub returns-clause-frag : goal.returns-clause-frag
returns-clause-frag g c =
    let d = c.args.flows.now in
    let P : PlainTree → Type 0 = λ t. StandsFor c.least.new.pool c.in_ok-made.made.frag t in
    subst P (balanced-tree d c.flow_counts-counts.ensures.sound c.args.row c.requires.row c.requires.balanced c.args.available
    c.start-start.result c.in_ok-made.made.height c.start-start.ensures
    (c.in_ok-made.ensures.least.height ∙ ap (λ q. balanced_height c.args.available (size_of d c.args.row q))
    c.start-start.ensures))
    c.in_ok-made.ensures.frag

pub returns-clause-uses : goal.returns-clause-uses
returns-clause-uses g c =
    let d = c.args.flows.now in
    c.in_ok-made.ensures.uses
    ∙ ap (λ q. after_uses d (uses_in c.args.book.now) (balanced_uses d c.args.row q c.args.available)) c.start-start.ensures
    ∙ ap (after_uses d (uses_in c.args.book.now)) (balanced-used d c.flow_counts-counts.ensures.sound c.args.row c.requires.row
    c.requires.balanced c.args.available)

pub returns-in_err-made-clause-grown : goal.returns-in_err-made-clause-grown
returns-in_err-made-clause-grown g c = grows-same-trial c.args.pool.now c.least.new.pool c.in_err-made.ensures.refused
