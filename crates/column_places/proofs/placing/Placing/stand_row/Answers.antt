use Rattle.std.proofs.Common.{◌+◌, ◌∙◌, [], ◌∷◌, ◌++◌, ap, map, refl}
use Rattle.std.proofs.lemmas.List.{map-append}
use Rattle.frag_maker.specs.declared.placed.Placed.TheVariants.{Row}
use Rattle.flow_list.specs.Placing.{row_at}
use Rattle.frag_maker.specs.Building.{laid_row, placed_as}
use Rattle.column_places.proofs.Gaps.{leads-flat-row, leads-row}
use Rattle.column_places.proofs.Rows.{flat-is}
use Rattle.column_places.proofs.placing.Placing.stand_row.Goals as goal

pub returns-then-is_flat-clause-leads : goal.returns-then-is_flat-clause-leads
returns-then-is_flat-clause-leads c =
    let w = c.in_ok-wait.ensures in
    let flat = c.if-is_flat.ensures.flat refl in
    leads-flat-row c.args.self.now c.wait.new.self _ c.args.stands c.requires.margin (flat-is c.args.stands flat.0 flat.1)
    w.placed w.gap w.y w.margin w.drops

pub returns-clause-leads : goal.returns-clause-leads
returns-clause-leads c =
    let w = c.in_ok-pass.ensures in
    let y = c.args.self.now.y + c.args.self.now.margin in
    leads-row c.args.self.now (record c.pass.new.self { placed = c.push.new.self }) c.args.stands c.requires.margin
    (c.if-is_flat.ensures.ends refl)
    (ap (map placed_as) c.in_ok-push.ensures.items ∙ map-append placed_as c.pass.new.self.placed.items (Row c.args.stands y ∷ [])
    ∙ ap (λ ps. ps ++ row_at (laid_row c.args.stands) y ∷ []) w.placed) w.gap w.y w.margin w.drops
