use Rattle.std.proofs.Common.{◌+◌, ◌∙◌, [], ◌∷◌, ◌++◌, ap, map}
use Rattle.std.proofs.lemmas.List.{map-append}
use Rattle.frag_maker.specs.declared.placed.Placed.TheVariants.{Atom}
use Rattle.flow_list.specs.Placing.{atom_at}
use Rattle.frag_maker.specs.Building.{placed_as}
use Rattle.column_places.proofs.Gaps.{leads-flat, leads-atom}
use Rattle.column_places.proofs.placing.Placing.stand.Goals as goal

pub returns-then-height-eq0-clause-leads : goal.returns-then-height-eq0-clause-leads
returns-then-height-eq0-clause-leads c =
    let w = c.in_ok-wait.ensures in
    leads-flat c.args.self.now c.wait.new.self c.args.item c.args.height c.requires.margin c.if-height-eq0.true w.placed w.gap
    w.y w.margin w.drops

pub returns-clause-leads : goal.returns-clause-leads
returns-clause-leads c =
    let w = c.in_ok-pass.ensures in
    leads-atom c.args.self.now (record c.pass.new.self { placed = c.push.new.self })
    c.args.item c.args.height c.requires.margin c.if-height-eq0.false
    (ap (map placed_as) c.in_ok-push.ensures.items ∙ map-append placed_as c.pass.new.self.placed.items
    (Atom c.args.item (c.args.self.now.y + c.args.self.now.margin) ∷ [])
    ∙ ap (λ ps. ps ++ atom_at c.args.item (c.args.self.now.y + c.args.self.now.margin) ∷ []) w.placed)
    w.gap w.y w.margin w.drops
