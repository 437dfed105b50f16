use Rattle.std.proofs.Common.{◌∙◌, sym, ap, subst, arith, List}
use Rattle.flow_data.specs.Flows.{flow_of}
use Rattle.flow_list.specs.Data.{Item}
use Rattle.flow_list.specs.Stacks.{height_in_stack}
use Rattle.flow_list.specs.Strip.{begins}
use Rattle.frag_pool.proofs.Growth.{grows-refl}
use Rattle.frag_maker.specs.declared.placed.MadeRow.{MadeRow}
use Rattle.column_places.specs.Placing.{rows_of, strip_of}
use Rattle.container_layout.specs.Placed.{AllHaveColumns}
use Rattle.container_layout.proofs.Rooms.{in-flows, item-room}
use Rattle.container_layout.proofs.Standing.{row-available, row-is-standing, row-stands}
use Rattle.container_layout.proofs.Tables.{row-known}
use Rattle.container_layout.proofs.Walks.{row-high, row-leads, row-pushed, rows-grow}
use Rattle.container_layout.proofs.walk.stand_item.Goals as goal

pub item_in-requires-clause-flow : goal.item_in-requires-clause-flow
item_in-requires-clause-flow c = in-flows c.args.flows.now c.flow_counts-counts.ensures.sound c.args.stack c.requires.stack

pub stand-requires-clause-room : goal.stand-requires-clause-room
stand-requires-clause-room c =
    let room = item-room c.args.flows.now c.flow_counts-counts.ensures.sound c.args.stack c.requires.stack c.args.k
    (strip_of c.args.at.now) c.requires.strip in
    let high = ap (λ (item : Item). height_in_stack c.args.flows.now c.args.stack.bound item
    (begins (strip_of c.args.at.now))) c.in-Atom.ensures in
    omega arith

pub stands_at-requires : goal.stands_at-requires
stands_at-requires c =
    let known = row-known c.args.flows.now c.flow_counts-counts.ensures.sound c.args.stack c.requires.stack c.args.k c.in-Row.row
    c.requires.item (sym c.in-Row.ensures) in
    let count = c.requires.count in
    omega arith

pub unreachable-requires : goal.unreachable-requires
unreachable-requires c =
    let known = row-known c.args.flows.now c.flow_counts-counts.ensures.sound c.args.stack c.requires.stack c.args.k c.in-Row.row
    c.requires.item (sym c.in-Row.ensures) in
    let count = c.requires.count in
    row-stands c.args.flows.now c.args.stack c.requires.stack c.args.k c.in-Row.row
    c.requires.item (sym c.in-Row.ensures) c.args.pool.now c.args.table.now (omega arith)
    c.requires.table c.stands_at.result (sym c.stands_at.ensures) c.in_default.is

pub standing_row-requires-clause-row : goal.standing_row-requires-clause-row
standing_row-requires-clause-row c =
    row-known c.args.flows.now c.flow_counts-counts.ensures.sound c.args.stack c.requires.stack c.args.k c.in-Row.row
    c.requires.item (sym c.in-Row.ensures)

pub standing_row-requires-clause-stands : goal.standing_row-requires-clause-stands
standing_row-requires-clause-stands c =
    let known = row-known c.args.flows.now c.flow_counts-counts.ensures.sound c.args.stack c.requires.stack c.args.k c.in-Row.row
    c.requires.item (sym c.in-Row.ensures) in
    let count = c.requires.count in
    row-is-standing c.args.flows.now c.args.stack c.requires.stack c.args.k c.in-Row.row
    c.requires.item (sym c.in-Row.ensures) c.args.pool.now c.args.table.now (omega arith)
    c.requires.table c.in-Some.stands (sym c.stands_at.ensures ∙ c.in-Some.is)

pub stand_row-requires-clause-room : goal.stand_row-requires-clause-room
stand_row-requires-clause-room c =
    let d = c.args.flows.now in
    let f = flow_of d c.args.stack.flow in
    let known = row-known d c.flow_counts-counts.ensures.sound c.args.stack c.requires.stack c.args.k c.in-Row.row
    c.requires.item (sym c.in-Row.ensures) in
    let count = c.requires.count in
    let there = row-available c.args.flows.now c.args.stack c.requires.stack c.args.k c.in-Row.row
    c.requires.item (sym c.in-Row.ensures) c.args.pool.now c.args.table.now (omega arith)
    c.requires.table c.in-Some.stands (sym c.stands_at.ensures ∙ c.in-Some.is) in
    let high = row-high d c.args.stack.bound f c.args.k c.in-Row.row (sym c.in-Row.ensures) c.args.at.now c.requires.strip
    c.in-Some.stands.available there c.in_ok-made-in-Row.made c.in_ok-made-in-Row.ensures.laid in
    let room = item-room d c.flow_counts-counts.ensures.sound c.args.stack c.requires.stack c.args.k
    (strip_of c.args.at.now) c.requires.strip in
    omega arith

pub returns-in_ok-stand_row-in-Row-clause-leads : goal.returns-in_ok-stand_row-in-Row-clause-leads
returns-in_ok-stand_row-in-Row-clause-leads c =
    let d = c.args.flows.now in
    let f = flow_of d c.args.stack.flow in
    let known = row-known d c.flow_counts-counts.ensures.sound c.args.stack c.requires.stack c.args.k c.in-Row.row
    c.requires.item (sym c.in-Row.ensures) in
    let count = c.requires.count in
    let there = row-available c.args.flows.now c.args.stack c.requires.stack c.args.k c.in-Row.row
    c.requires.item (sym c.in-Row.ensures) c.args.pool.now c.args.table.now (omega arith)
    c.requires.table c.in-Some.stands (sym c.stands_at.ensures ∙ c.in-Some.is) in
    row-leads d c.args.stack.bound f c.args.k c.in-Row.row (sym c.in-Row.ensures) c.args.at.now c.stand_row.new.self
    c.requires.strip c.in-Some.stands.available there c.in_ok-made-in-Row.made c.in_ok-made-in-Row.ensures.laid
    c.in_ok-stand_row-in-Row.ensures.leads

pub returns-in_ok-stand_row-in-Row-clause-made : goal.returns-in_ok-stand_row-in-Row-clause-made
returns-in_ok-stand_row-in-Row-clause-made c =
    let d = c.args.flows.now in
    let P : List MadeRow → Type 0 = λ rows. AllHaveColumns d c.standing_row.new.pool rows in
    subst P (sym c.in_ok-stand_row-in-Row.ensures.rows) (row-pushed d c.standing_row.new.pool (rows_of c.args.at.now)
    c.in_ok-made-in-Row.made
    (rows-grow d c.args.pool.now c.standing_row.new.pool c.in_ok-made-in-Row.ensures.grown (rows_of c.args.at.now)
    c.requires.made)
    c.in_ok-made-in-Row.ensures.made)

pub returns-in_err-stand-in-Atom-clause-grown : goal.returns-in_err-stand-in-Atom-clause-grown
returns-in_err-stand-in-Atom-clause-grown c = grows-refl c.args.pool.now

pub returns-in_ok-stand-in-Atom-clause-grown : goal.returns-in_ok-stand-in-Atom-clause-grown
returns-in_ok-stand-in-Atom-clause-grown c = grows-refl c.args.pool.now
