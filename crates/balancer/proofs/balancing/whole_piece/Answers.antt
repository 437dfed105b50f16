use Rattle.std.proofs.Common.{List, None, arith, ◌∙◌, ◌+◌, ◌≤◌, ap, subst}
use Rattle.flow_data.specs.Flows.{flow_in, row_of}
use Rattle.flow_list.specs.Book.{after_uses}
use Rattle.flow_list.specs.Certificate.{uses_of}
use Rattle.flow_list.specs.Column.{Column}
use Rattle.flow_list.specs.Entries.{uses_in}
use Rattle.frag_pool.specs.Standing.{StandsFor}
use Rattle.inner_rows.specs.Filling.{row_tree}
use Rattle.column_row.specs.Folding.{looks_cost}
use Rattle.balancer.proofs.Trials.{row-flow}
use Rattle.balancer.proofs.Wholes.{all-columns}
use Rattle.balancer.proofs.balancing.whole_piece.Goals as goal

pub returns-clause-frag : goal.returns-clause-frag
returns-clause-frag g c =
    let d = c.args.flows.now in
    let sound = c.flow_counts-counts.ensures.sound in
    subst (λ (cs : List Column). StandsFor c.fold.new.pool c.in_ok-made.made.frag
    (row_tree d c.args.row c.args.from.now c.args.height None cs))
    (all-columns d c.args.row c.args.from.now c.args.height _ c.columns_follow.ensures.columns
    (c.columns_are_few.ensures.columns d sound c.args.row c.requires.row)
    (c.flows_are_sound.ensures d sound (row_of d c.args.row).flow (row-flow d c.args.row sound c.requires.row)) c.requires.place
    (omega arith)) c.in_ok-made.ensures.frag

pub returns-clause-uses : goal.returns-clause-uses
returns-clause-uses g c =
    let d = c.args.flows.now in
    let sound = c.flow_counts-counts.ensures.sound in
    c.in_ok-made.ensures.uses
    ∙ ap (λ (cs : List Column). after_uses d (uses_in c.args.book.now) (uses_of cs))
    (all-columns d c.args.row c.args.from.now c.args.height _ c.columns_follow.ensures.columns
    (c.columns_are_few.ensures.columns d sound c.args.row c.requires.row)
    (c.flows_are_sound.ensures d sound (row_of d c.args.row).flow (row-flow d c.args.row sound c.requires.row)) c.requires.place
    (omega arith))

pub returns-in_err-made-clause-reads : goal.returns-in_err-made-clause-reads
returns-in_err-made-clause-reads g c =
    let d = c.args.flows.now in
    let sound = c.flow_counts-counts.ensures.sound in
    subst (λ (cs : List Column). g.C.Tally.read_count c.fold.new.tally
    ≤ g.C.Tally.read_count c.args.tally.now + looks_cost d (flow_in d c.args.row) c.args.from.now c.args.height cs)
    (all-columns d c.args.row c.args.from.now c.args.height _ c.columns_follow.ensures.columns
    (c.columns_are_few.ensures.columns d sound c.args.row c.requires.row)
    (c.flows_are_sound.ensures d sound (row_of d c.args.row).flow (row-flow d c.args.row sound c.requires.row)) c.requires.place
    (omega arith)) c.fold.ensures.read

pub returns-clause-reads : goal.returns-clause-reads
returns-clause-reads g c =
    let d = c.args.flows.now in
    let sound = c.flow_counts-counts.ensures.sound in
    subst (λ (cs : List Column). g.C.Tally.read_count c.fold.new.tally
    ≤ g.C.Tally.read_count c.args.tally.now + looks_cost d (flow_in d c.args.row) c.args.from.now c.args.height cs)
    (all-columns d c.args.row c.args.from.now c.args.height _ c.columns_follow.ensures.columns
    (c.columns_are_few.ensures.columns d sound c.args.row c.requires.row)
    (c.flows_are_sound.ensures d sound (row_of d c.args.row).flow (row-flow d c.args.row sound c.requires.row)) c.requires.place
    (omega arith)) c.fold.ensures.read
