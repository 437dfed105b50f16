use Rattle.column_places.proofs.Gaps.{leads-solid}
use Rattle.column_places.proofs.placing.Placing.lay_solid.Goals as goal

pub returns-clause-leads : goal.returns-clause-leads
returns-clause-leads c =
    let w = c.in_ok-pass.ensures in
    leads-solid c.args.self.now c.pass.new.self c.args.amount c.requires.margin c.if-amount-eq0.false w.placed w.gap w.y
    w.margin w.drops
