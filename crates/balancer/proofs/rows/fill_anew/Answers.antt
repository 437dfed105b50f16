use Rattle.std.proofs.Common.{◌∙◌, ap}
use Rattle.flow_data.specs.declared.data.RowInfo.{RowInfo}
use Rattle.flow_list.specs.Book.{after_uses}
use Rattle.flow_list.specs.Entries.{uses_in}
use Rattle.balancer.proofs.Sizes.{fill-uses}
use Rattle.balancer.proofs.rows.fill_anew.Goals as goal

pub returns-clause-uses : goal.returns-clause-uses
returns-clause-uses g c =
    c.in_ok-made.ensures.uses
    ∙ ap (after_uses c.args.flows.now (uses_in c.args.book.now)) (fill-uses c.args.flows.now c.args.row c.args.from.now
    c.args.height _ ((c.depths_are_alike.ensures.told c.args.flows.now c.flow_counts-counts.ensures.sound).fill_is c.args.row
    c.args.from.now c.args.height c.requires.row) (ap (λ (i : RowInfo). i.n) c.row_at.ensures.same))
