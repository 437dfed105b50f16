use Rattle.std.proofs.Common.{◌^◌, ap, sym, ◌∙◌}
use Rattle.box_data.specs.Limits.{first_above}
use Rattle.box_style.specs.Lengths.{lengths_at, shown_lengths}
use Rattle.box_style.proofs.LengthLemmas.{long_here, long_later}
use Rattle.box_style.proofs.lengths.first_long.Goals as goal

pub returns-in-Some : goal.returns-in-Some
returns-in-Some c =
    sym (long_here (lengths_at c.entries-entries.result.now) (2 ^ 24) c.args.shown.now c.loop-node.node-index 0 c.in-Some.units
    c.loop-node-test.true (sym c.long_at.ensures ∙ c.in-Some.is))
    ∙ (c.loop-node.invariant
    ∙ ap (λ entries. first_above (2 ^ 24) (shown_lengths entries c.args.shown.now)) c.entries-entries.ensures)

pub loop-node-preserved : goal.loop-node-preserved
loop-node-preserved c =
    long_later (lengths_at c.entries-entries.result.now) (2 ^ 24) c.args.shown.now c.loop-node.node-index 0
    c.loop-node-test.true (sym c.long_at.ensures ∙ c.in_default.is)
    ∙ c.loop-node.invariant
