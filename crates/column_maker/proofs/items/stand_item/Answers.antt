use Rattle.flow_data.specs.Flows.{flow_of}
use Rattle.flow_data.specs.Soundness.{NestsAtMost}
use Rattle.column_maker.proofs.Rows.{of-item}
use Rattle.column_maker.proofs.items.stand_item.Goals as goal

pub stand_one-stood-requires-clause-nests : goal.stand_one-stood-requires-clause-nests
stand_one-stood-requires-clause-nests g c =
    of-item (NestsAtMost c.args.flows.now (g.I.InnerRows.depth c.args.inner.now)) (flow_of c.args.flows.now c.args.flow)
    c.args.k c.requires.nests _ c.item_at-item.ensures.same
