use Rattle.std.proofs.Common.{◌∙◌}
use Rattle.column_places.proofs.Gaps.{leads-margin}
use Rattle.column_places.proofs.placing.Placing.lay_margin.Goals as goal

pub returns-clause-leads : goal.returns-clause-leads
returns-clause-leads c =
    let w = c.in_ok-wait.ensures in
    leads-margin c.args.self.now c.wait.new.self c.args.margin c.requires c.if-self.false w.placed w.gap w.y (w.margin
    ∙ c.max-self.ensures) w.drops
