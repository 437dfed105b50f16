use Rattle.std.proofs.Common.{◌∙◌, sym}
use Rattle.column_strip.proofs.OpenSums.{none-across}
use Rattle.column_strip.proofs.passing.across_seam.Goals as goal

pub returns-then-counts-eq0 : goal.returns-then-counts-eq0
returns-then-counts-eq0 c =
    none-across c.args.flows.now c.args.flow c.flow_counts-counts.ensures.sound c.requires.flow c.args.k c.none.result
    (sym c.flow_counts-counts.ensures.boxes ∙ c.if-counts-eq0.true) c.none.ensures.tops c.none.ensures.bottoms
    c.none.ensures.avoiding
