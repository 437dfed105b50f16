use Rattle.std.proofs.Common.{◌+◌, ◌∙◌, sym, ap, subst, arith, List}
use Rattle.flow_list.specs.Data.{Seam}
use Rattle.flow_data.specs.Flows.{flow_of}
use Rattle.frag_maker.specs.declared.placed.MadeRow.{MadeRow}
use Rattle.column_places.specs.Placing.{strip_of}
use Rattle.container_layout.specs.Placed.{AllHaveColumns}
use Rattle.container_layout.proofs.Rooms.{in-flows, item-room, some-seam}
use Rattle.container_layout.proofs.Walks.{head-room, item-leads, tail-room}
use Rattle.container_layout.proofs.walk.pass_item.Goals as goal

pub seam_at-seam-requires-clause-flow : goal.seam_at-seam-requires-clause-flow
seam_at-seam-requires-clause-flow c = in-flows c.args.flows.now c.flow_counts-counts.ensures.sound c.args.stack c.requires.stack

pub seam_at-seam-requires-clause-seam : goal.seam_at-seam-requires-clause-seam
seam_at-seam-requires-clause-seam c =
    let lt = c.requires.item in
    some-seam c.args.flows.now c.flow_counts-counts.ensures.sound c.args.stack c.requires.stack (c.args.k + 1) (omega arith)

pub lay_all-requires-clause-room : goal.lay_all-requires-clause-room
lay_all-requires-clause-room c =
    tail-room c.args.flows.now c.args.stack.bound (flow_of c.args.flows.now c.args.stack.flow) c.args.k c.args.at.now
    c.stand_item.new.at c.requires.strip c.in_ok-stand_item.ensures.leads
    (item-room c.args.flows.now c.flow_counts-counts.ensures.sound c.args.stack c.requires.stack c.args.k
    (strip_of c.args.at.now) c.requires.strip) c.as_slice.result.now
    (c.as_slice.ensures ∙ ap (λ (s : Seam). s.tail) c.seam_at-seam.ensures.same)

pub lay_all-requires-2-clause-room : goal.lay_all-requires-2-clause-room
lay_all-requires-2-clause-room c =
    head-room c.args.flows.now c.args.stack.bound (flow_of c.args.flows.now c.args.stack.flow) c.args.k c.args.at.now
    c.stand_item.new.at c.requires.strip c.in_ok-stand_item.ensures.leads
    (item-room c.args.flows.now c.flow_counts-counts.ensures.sound c.args.stack c.requires.stack c.args.k
    (strip_of c.args.at.now) c.requires.strip) c.as_slice.result.now
    (c.as_slice.ensures ∙ ap (λ (s : Seam). s.tail) c.seam_at-seam.ensures.same) c.lay_all.new.self
    c.in_ok-lay_all.ensures.leads c.as_slice-2.result.now
    (c.as_slice-2.ensures ∙ ap (λ (s : Seam). s.head) c.seam_at-seam.ensures.same)

pub returns-clause-leads : goal.returns-clause-leads
returns-clause-leads c =
    item-leads c.args.flows.now c.args.stack.bound (flow_of c.args.flows.now c.args.stack.flow) c.args.k c.args.at.now
    c.stand_item.new.at c.requires.strip c.in_ok-stand_item.ensures.leads
    (item-room c.args.flows.now c.flow_counts-counts.ensures.sound c.args.stack c.requires.stack c.args.k
    (strip_of c.args.at.now) c.requires.strip) c.as_slice.result.now
    (c.as_slice.ensures ∙ ap (λ (s : Seam). s.tail) c.seam_at-seam.ensures.same) c.lay_all.new.self
    c.in_ok-lay_all.ensures.leads c.as_slice-2.result.now
    (c.as_slice-2.ensures ∙ ap (λ (s : Seam). s.head) c.seam_at-seam.ensures.same) c.lay_all-2.new.self
    c.in_ok-lay_all-2.ensures.leads

pub returns-clause-made : goal.returns-clause-made
returns-clause-made c =
    let P : List MadeRow → Type 0 = λ rows. AllHaveColumns c.args.flows.now c.stand_item.new.pool rows in
    subst P (sym (c.in_ok-lay_all-2.ensures.rows ∙ c.in_ok-lay_all.ensures.rows)) c.in_ok-stand_item.ensures.made
