use Rattle.std.proofs.Common.{EachIndex, below_more, arith}
use Rattle.flow_data.specs.Soundness.{NestsAtMost}
use Rattle.flow_data.proofs.Verdicts.{refused, accepted, not_so}
use Rattle.flow_data.proofs.sound_rows.rows_nest.Goals as goal

pub returns-then-not-nests_at_most : goal.returns-then-not-nests_at_most
returns-then-not-nests_at_most c =
    let d = c.args.parts.now in
    refused (EachIndex d.rows (NestsAtMost d 3))
    (λ h. not_so c.nests_at_most.ensures c.if-not-nests_at_most.true (h c.loop-row.row (omega arith)))

pub loop-row-preserved : goal.loop-row-preserved
loop-row-preserved c = below_more (NestsAtMost c.args.parts.now 3) c.loop-row.row c.loop-row.invariant
    (c.nests_at_most.ensures.0 c.if-not-nests_at_most.false)

pub returns : goal.returns
returns c =
    let d = c.args.parts.now in
    accepted (EachIndex d.rows (NestsAtMost d 3)) (λ k lt. c.loop-row.invariant k (omega arith))
