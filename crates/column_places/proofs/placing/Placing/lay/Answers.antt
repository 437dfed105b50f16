use Rattle.column_places.proofs.Gaps.{leads-wall, leads-opens, leads-closes}
use Rattle.column_places.proofs.placing.Placing.lay.Goals as goal

pub returns-in_ok-pass-in-Wall-clause-leads : goal.returns-in_ok-pass-in-Wall-clause-leads
returns-in_ok-pass-in-Wall-clause-leads c =
    let w = c.in_ok-pass-in-Wall.ensures in
    let h = leads-wall c.args.self.now c.pass.new.self c.requires.margin w.placed w.gap w.y w.margin w.drops in
    rw c.in-Wall.is h

pub returns-in_ok-wait-in-Start-clause-leads : goal.returns-in_ok-wait-in-Start-clause-leads
returns-in_ok-wait-in-Start-clause-leads c =
    let w = c.in_ok-wait-in-Start.ensures in
    let h = leads-opens c.args.self.now c.wait.new.self c.in-Start.number c.requires.margin w.placed w.gap w.y w.margin w.drops in
    rw c.in-Start.is h

pub returns-in_ok-wait-in-End-clause-leads : goal.returns-in_ok-wait-in-End-clause-leads
returns-in_ok-wait-in-End-clause-leads c =
    let w = c.in_ok-wait-in-End.ensures in
    let h = leads-closes c.args.self.now c.wait-in-End.new.self c.in-End.number c.requires.margin w.placed w.gap w.y w.margin
    w.drops in
    rw c.in-End.is h
