use Rattle.std.proofs.Common.{◌∙◌, ap, sym, subst}
use Rattle.flow_data.specs.Flows.{flow_in, flow_of, row_of}
use Rattle.flow_data.specs.declared.data.RowInfo.{RowInfo}
use Rattle.flow_list.specs.Book.{after_uses}
use Rattle.flow_list.specs.Column.{column}
use Rattle.flow_list.specs.Entries.{uses_in}
use Rattle.flow_list.specs.Rows.{all_rows}
use Rattle.frag_pool.specs.Standing.{StandsFor}
use Rattle.column_maker.specs.Making.{tree_of_column}
use Rattle.column_row.proofs.SoFar.{column-place, frags-next, on-ok, place-next, row-flow, some-items, told-next}
use Rattle.column_row.proofs.folding.next_column.Goals as goal

pub column-requires-clause-flow : goal.column-requires-clause-flow
column-requires-clause-flow g c =
    rw c.row_at.ensures.same (row-flow c.args.flows.now c.flow_counts-counts.ensures.sound c.args.row c.requires.row)

pub column-requires-clause-place : goal.column-requires-clause-place
column-requires-clause-place g c = rw c.row_at.ensures.same c.requires.place

pub column-requires-clause-nests : goal.column-requires-clause-nests
column-requires-clause-nests g c = rw c.row_at.ensures.same c.requires.nests

pub column-requires-clause-some : goal.column-requires-clause-some
column-requires-clause-some g c =
    rw c.row_at.ensures.same (some-items c.args.flows.now c.flow_counts-counts.ensures.sound c.args.row c.requires.row)

pub with_column-requires-clause-place : goal.with_column-requires-clause-place
with_column-requires-clause-place g c =
    rw (c.in_ok-made.ensures.column.end, c.row_at.ensures.same)
    (column-place c.args.flows.now (c.flows_are_sound.ensures c.args.flows.now c.flow_counts-counts.ensures.sound)
    (row_of c.args.flows.now c.args.row).flow
    (row-flow c.args.flows.now c.flow_counts-counts.ensures.sound c.args.row c.requires.row) c.args.told.end c.args.height
    c.requires.place)

pub returns-clause-told : goal.returns-clause-told
returns-clause-told g c =
    told-next c.with_column.result c.args.flows.now c.args.row c.args.height c.args.told c.in_ok-made.made
    (flow_in c.args.flows.now c.args.row) (flow_of c.args.flows.now c.row_at.result.now.flow)
    (sym (ap (λ (i : RowInfo). flow_of c.args.flows.now i.flow) c.row_at.ensures.same)) c.in_ok-made.ensures.column
    c.with_column.ensures.told

pub returns-clause-place : goal.returns-clause-place
returns-clause-place g c =
    place-next c.with_column.result c.args.flows.now c.args.row c.args.height c.args.told c.in_ok-made.made
    (flow_in c.args.flows.now c.args.row) (flow_of c.args.flows.now c.row_at.result.now.flow)
    (sym (ap (λ (i : RowInfo). flow_of c.args.flows.now i.flow) c.row_at.ensures.same)) c.in_ok-made.ensures.column
    (column-place c.args.flows.now (c.flows_are_sound.ensures c.args.flows.now c.flow_counts-counts.ensures.sound)
    (row_of c.args.flows.now c.args.row).flow
    (row-flow c.args.flows.now c.flow_counts-counts.ensures.sound c.args.row c.requires.row) c.args.told.end c.args.height
    c.requires.place)
    c.with_column.ensures.end

pub returns-clause-frags : goal.returns-clause-frags
returns-clause-frags g c =
    frags-next c.with_column.result c.args.flows.now c.args.pool.now c.column.new.pool c.args.row c.args.height c.args.told
    c.in_ok-made.made.frag _ c.in_ok-made.ensures.grown
    (subst (λ (i : RowInfo). StandsFor c.column.new.pool c.in_ok-made.made.frag
    (tree_of_column c.args.flows.now i.flow c.args.told.end c.args.height)) c.row_at.ensures.same c.in_ok-made.ensures.frag)
    c.with_column.ensures.frags

pub returns-clause-uses : goal.returns-clause-uses
returns-clause-uses g c =
    on-ok c.with_column.result (c.in_ok-made.ensures.uses
    ∙ ap (λ (i : RowInfo). after_uses c.args.flows.now (uses_in c.args.book.now)
    (column (all_rows c.args.flows.now) c.args.flows.now (flow_of c.args.flows.now i.flow) c.args.told.end c.args.height).uses)
    c.row_at.ensures.same)
