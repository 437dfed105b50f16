use Rattle.std.proofs.Common.{◌∙◌, sym, ap}
use Rattle.flow_list.specs.Data.{Item}
use Rattle.flow_list.specs.RowHeights.{row_height}
use Rattle.flow_list.specs.Stacks.{height_in_stack}
use Rattle.frag_pool.proofs.Growth.{same-trial-refl}
use Rattle.inner_rows.proofs.Calls.{book-refl}
use Rattle.container_layout.proofs.Results.{ok-map}
use Rattle.container_layout.proofs.Rooms.{in-flows}
use Rattle.container_layout.proofs.Tables.{row-known}
use Rattle.container_layout.proofs.find.item_height.Goals as goal

pub item_in-requires-clause-flow : goal.item_in-requires-clause-flow
item_in-requires-clause-flow g c = in-flows c.args.flows.now c.flow_counts-counts.ensures.sound c.args.stack c.requires.stack

pub row_height-requires-clause-row : goal.row_height-requires-clause-row
row_height-requires-clause-row g c =
    row-known c.args.flows.now c.flow_counts-counts.ensures.sound c.args.stack c.requires.stack c.args.k c.in-Row.row
    c.requires.item (sym c.in-Row.ensures)

pub returns-in-Row-clause-height : goal.returns-in-Row-clause-height
returns-in-Row-clause-height g c =
    ok-map c.row_height.result _ _ (λ height is. is
    ∙ ap (row_height c.args.flows.now c.in-Row.row) c.available_in-available.ensures
    ∙ ap (λ (item : Item). height_in_stack c.args.flows.now c.args.stack.bound item c.args.y) c.in-Row.ensures)
    c.row_height.ensures.height

pub returns-in-Atom-clause-height : goal.returns-in-Atom-clause-height
returns-in-Atom-clause-height g c =
    ap (λ (item : Item). height_in_stack c.args.flows.now c.args.stack.bound item c.args.y) c.in-Atom.ensures

pub returns-in-Atom-clause-book : goal.returns-in-Atom-clause-book
returns-in-Atom-clause-book g c = book-refl c.args.flows.now c.args.book.now c.requires.book

pub returns-in-Atom-clause-pool : goal.returns-in-Atom-clause-pool
returns-in-Atom-clause-pool g c = same-trial-refl c.args.pool.now
