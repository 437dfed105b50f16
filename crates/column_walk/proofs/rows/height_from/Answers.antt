use Rattle.std.proofs.Common.{◌≡◌, ◌∙◌, sym, ap, None}
use Rattle.flow_data.specs.Flows.{flow_of, item_of}
use Rattle.flow_data.specs.Soundness.{NestsAtMost}
use Rattle.flow_list.specs.Column.{row_from}
use Rattle.column_walk.proofs.Chain.{uses-none}
use Rattle.column_walk.proofs.Filled.{row-at, row-known}
use Rattle.column_walk.proofs.rows.height_from.Goals as goal

pub size-size-requires-clause-row : goal.size-size-requires-clause-row
size-size-requires-clause-row g c =
    row-known c.args.flows.now c.flow_counts-counts.ensures.sound c.args.flow c.requires.flow c.args.k c.args.item c.in-Row.row
    c.requires.item c.in-Row.is

pub size-size-requires-clause-nests : goal.size-size-requires-clause-nests
size-size-requires-clause-nests g c =
    row-at (NestsAtMost c.args.flows.now (g.I.InnerRows.depth c.args.inner.now)) (flow_of c.args.flows.now c.args.flow) c.args.k
    c.args.item c.in-Row.row c.requires.item c.in-Row.is c.requires.nests

pub size-size-requires-clause-place : goal.size-size-requires-clause-place
size-size-requires-clause-place g c = rw (sym c.requires.item ∙ c.in-Row.is) at c.requires.place

pub returns-in-Atom-clause-uses : goal.returns-in-Atom-clause-uses
returns-in-Atom-clause-uses g c =
    let none : row_from (item_of (flow_of c.args.flows.now c.args.flow) c.args.k) c.args.from.now ≡ None =
    ap (λ i. row_from i c.args.from.now) (sym c.requires.item ∙ c.in-Atom.is) in
    rw none (sym (uses-none c.args.flows.now _))
