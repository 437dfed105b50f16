use Rattle.std.proofs.Common.{◌∙◌, refl, sym, arith}
use Rattle.flow_data.specs.Flows.{flow_of}
use Rattle.container_layout.proofs.Rooms.{in-flows}
use Rattle.container_layout.proofs.Tables.{atom-noted, item-noted, row-known}
use Rattle.container_layout.proofs.find.note_item.Goals as goal

pub item_in-requires-clause-flow : goal.item_in-requires-clause-flow
item_in-requires-clause-flow c = in-flows c.args.flows.now c.flow_counts-counts.ensures.sound c.args.stack c.requires.stack

pub note-requires : goal.note-requires
note-requires c =
    let known = row-known c.args.flows.now c.flow_counts-counts.ensures.sound c.args.stack c.requires.stack c.args.k c.in-Row.row
    c.requires.item (sym c.in-Row.ensures) in
    omega arith

pub returns-in-Atom-clause-found : goal.returns-in-Atom-clause-found
returns-in-Atom-clause-found c = λ rows more split has.
    atom-noted c.args.flows.now c.args.stack.bound (flow_of c.args.flows.now c.args.stack.flow) c.args.k _ c.in-Atom.ensures refl
    rows c.args.table.now.items has

pub returns-in-Row-clause-found : goal.returns-in-Row-clause-found
returns-in-Row-clause-found c = λ rows more split has.
    item-noted c.args.flows.now c.flow_counts-counts.ensures.sound c.args.stack c.requires.stack c.args.k c.in-Row.row
    c.requires.item (sym c.in-Row.ensures)
    (c.entries_stand_once.ensures c.args.flows.now c.flow_counts-counts.ensures.sound) rows more c.args.table.now.items _ _
    (c.available_in-available.ensures ∙ c.requires.available) c.note.ensures split has
