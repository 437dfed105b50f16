use Rattle.std.proofs.Common.{◌≡◌, ◌∙◌, sym, ap, [], None, Some}
use Rattle.std.specs.Prelude.{is_none, nat_lt, ◌&&◌, ◌||◌}
use Rattle.flow_data.specs.Flows.{flow_of}
use Rattle.flow_data.specs.Soundness.{NestsAtMost}
use Rattle.flow_list.specs.Column.{room, row_from}
use Rattle.column_walk.specs.Endings.{place_opt, step_of}
use Rattle.column_walk.proofs.Chain.{uses-none}
use Rattle.column_walk.proofs.Filled.{on-ok, row-at}
use Rattle.column_walk.proofs.Stopped.{uses-unfilled}
use Rattle.column_walk.proofs.deciding.stop.Goals as goal

pub fill_row-requires-clause-nests : goal.fill_row-requires-clause-nests
fill_row-requires-clause-nests g c =
    row-at (NestsAtMost c.args.flows.now (g.I.InnerRows.depth c.args.inner.now)) (flow_of c.args.flows.now c.args.flow)
    c.args.here.item c.args.item c.in-Row.row c.requires.item c.in-Row.is c.requires.nests

pub returns-in-Atom-clause-uses : goal.returns-in-Atom-clause-uses
returns-in-Atom-clause-uses g c =
    let none : row_from c.args.item c.args.from.now ≡ None = ap (λ i. row_from i c.args.from.now) c.in-Atom.is in
    rw none (on-ok c.stop_at_atom.result (sym (uses-none c.args.flows.now _)))

pub returns-then-not-is_filled-clause-uses : goal.returns-then-not-is_filled-clause-uses
returns-then-not-is_filled-clause-uses g c =
    let some : row_from c.args.item c.args.from.now ≡ Some (c.in-Row.row, c.args.from.now) =
    ap (λ i. row_from i c.args.from.now) c.in-Row.is in
    let unfilled = sym (c.is_filled.ensures
    ∙ ap (λ n. nat_lt n c.args.here.height && (c.begins_in-begins.result || is_none (place_opt c.args.best)))
    c.room_in-room.ensures
    ∙ ap (λ b. nat_lt (room (step_of c.args.here None []) c.args.height) c.args.here.height
    && (b || is_none (place_opt c.args.best))) c.begins_in-begins.ensures) ∙ c.if-not-is_filled.true in
    rw (some, uses-unfilled (place_opt c.args.best) (step_of c.args.here None []) c.args.height unfilled)
    (on-ok c.stop_at_row.result (sym (uses-none c.args.flows.now _)))
