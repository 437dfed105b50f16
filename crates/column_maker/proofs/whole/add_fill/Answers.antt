use Rattle.std.proofs.Common.{◌∙◌, ◌++◌, sym, ap, None}
use Rattle.flow_data.specs.Flows.{flow_in}
use Rattle.flow_list.specs.Entries.{uses_in}
use Rattle.flow_list.specs.Tokens.{is_end}
use Rattle.frag_pool.specs.Nodes.{ids_of}
use Rattle.frag_pool.proofs.Growth.{stands-live}
use Rattle.column_maker.proofs.Parts.{fewer-left, in-piece, next-place, part-all, part-more, part-uses}
use Rattle.column_maker.proofs.whole.add_fill.Goals as goal

pub get-requires : goal.get-requires
get-requires g c = stands-live c.fill.new.pool c.in_ok-filled.filled.frag _ c.in_ok-filled.ensures.frag

pub returns-then-filled-clause-columns : goal.returns-then-filled-clause-columns
returns-then-filled-clause-columns g c = λ from stand part.
    let d = c.args.flows.now in
    let sound = c.flow_counts-counts.ensures.sound in
    let pool = c.fill.new.pool in
    let out = c.in_ok-filled.filled in
    let told = c.in_ok-filled.ensures.fill in
    let node = c.get.result.now in
    let kids = in-piece pool out.frag c.args.row c.args.at.now 0 None _ node c.in_ok-filled.ensures.frag c.get.ensures.node in
    rw (c.in_ok-push_all.ensures, c.ids_in.ensures)
    (part-all d sound c.args.row c.requires.row from c.args.height stand pool (c.args.columns.now ++ ids_of node) out.end
    (ap (is_end (flow_in d c.args.row)) told.end ∙ sym told.at_end ∙ c.if-filled.true)
    (part-more d sound c.args.row c.requires.row from c.args.height stand c.args.at.now c.requires.place c.args.pool.now pool
    c.args.columns.now (ids_of node) out.end c.in_ok-filled.ensures.grown told.end kids part))

pub returns-else-filled-clause-columns : goal.returns-else-filled-clause-columns
returns-else-filled-clause-columns g c = λ from stand part.
    let d = c.args.flows.now in
    let sound = c.flow_counts-counts.ensures.sound in
    let pool = c.fill.new.pool in
    let out = c.in_ok-filled.filled in
    let told = c.in_ok-filled.ensures.fill in
    let node = c.get.result.now in
    let kids = in-piece pool out.frag c.args.row c.args.at.now 0 None _ node c.in_ok-filled.ensures.frag c.get.ensures.node in
    rw (c.in_ok-push_all.ensures, c.ids_in.ensures)
    (part-more d sound c.args.row c.requires.row from c.args.height stand c.args.at.now c.requires.place c.args.pool.now pool
    c.args.columns.now (ids_of node) out.end c.in_ok-filled.ensures.grown told.end kids part)

pub returns-else-filled-clause-place : goal.returns-else-filled-clause-place
returns-else-filled-clause-place g c =
    let d = c.args.flows.now in
    let told = c.in_ok-filled.ensures.fill in
    next-place d c.flow_counts-counts.ensures.sound c.args.row c.requires.row c.args.at.now c.args.height
    (uses_in c.args.book.now) c.args.at.now
    c.requires.place c.in_ok-filled.filled.end told.end
    (ap (is_end (flow_in d c.args.row)) told.end ∙ sym told.at_end ∙ c.if-filled.false)

pub returns-else-filled-clause-fewer : goal.returns-else-filled-clause-fewer
returns-else-filled-clause-fewer g c =
    fewer-left c.args.flows.now c.flow_counts-counts.ensures.sound c.args.row c.requires.row c.args.at.now c.args.height
    (uses_in c.args.book.now)
    c.args.at.now c.requires.place c.in_ok-filled.filled.end c.in_ok-filled.ensures.fill.end

pub returns-then-filled-clause-uses : goal.returns-then-filled-clause-uses
returns-then-filled-clause-uses g c = λ from part.
    c.in_ok-filled.ensures.uses
    ∙ (c.uses_enter.ensures c.args.flows.now).none_new (uses_in c.args.book.now) _
    (part-uses c.args.flows.now c.flow_counts-counts.ensures.sound c.args.row c.requires.row from c.args.height
    (uses_in c.args.book.now) c.args.at.now c.requires.place c.args.pool.now c.args.columns.now part)

pub returns-else-filled-clause-uses : goal.returns-else-filled-clause-uses
returns-else-filled-clause-uses g c = λ from part.
    c.in_ok-filled.ensures.uses
    ∙ (c.uses_enter.ensures c.args.flows.now).none_new (uses_in c.args.book.now) _
    (part-uses c.args.flows.now c.flow_counts-counts.ensures.sound c.args.row c.requires.row from c.args.height
    (uses_in c.args.book.now) c.args.at.now c.requires.place c.args.pool.now c.args.columns.now part)
