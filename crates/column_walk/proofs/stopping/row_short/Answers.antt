use Rattle.std.proofs.Common.{◌∙◌, sym, [], None}
use Rattle.column_walk.specs.Endings.{step_of}
use Rattle.column_walk.proofs.Shortages.{cut-short}
use Rattle.column_walk.proofs.stopping.row_short.Goals as goal

pub returns-then-cuts : goal.returns-then-cuts
returns-then-cuts c = λ made same.
    cut-short (step_of c.args.here None []) c.args.height c.requires.above made c.args.inner (sym c.requires.cut ∙ c.if-cuts.true)
    (same c.if-cuts.true)
    c.begin_short.result c.lesser-least.result c.min.result _ c.begin_short.ensures c.lesser-least.ensures c.min.ensures
    c.lesser.ensures
