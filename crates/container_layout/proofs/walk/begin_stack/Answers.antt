use Rattle.std.proofs.Common.{◌+◌, ◌∙◌, ap, arith}
use Rattle.flow_list.specs.Data.{Seam}
use Rattle.flow_list.specs.Strip.{Strip}
use Rattle.container_layout.proofs.Rooms.{across-boxes, head-room, in-flows, some-seam, tops-room}
use Rattle.container_layout.proofs.Walks.{begin-places, begin-strip}
use Rattle.container_layout.proofs.walk.begin_stack.Goals as goal

pub opened_in-requires : goal.opened_in-requires
opened_in-requires c = in-flows c.args.flows.now c.flow_counts-counts.ensures.sound c.args.stack c.requires.stack

pub continued-requires-clause-known : goal.continued-requires-clause-known
continued-requires-clause-known c =
    across-boxes c.args.flows.now c.flow_counts-counts.ensures.sound c.args.stack c.requires.stack 0 _
    (c.as_slice.ensures ∙ c.opened_in.ensures)

pub continued-requires-clause-room : goal.continued-requires-clause-room
continued-requires-clause-room c =
    let room = tops-room c.args.flows.now c.flow_counts-counts.ensures.sound c.args.stack c.requires.stack 0 c.as_slice.result.now
    (c.as_slice.ensures ∙ c.opened_in.ensures) in
    omega arith

pub seam_at-requires-clause-flow : goal.seam_at-requires-clause-flow
seam_at-requires-clause-flow c = in-flows c.args.flows.now c.flow_counts-counts.ensures.sound c.args.stack c.requires.stack

pub seam_at-requires-clause-seam : goal.seam_at-requires-clause-seam
seam_at-requires-clause-seam c =
    some-seam c.args.flows.now c.flow_counts-counts.ensures.sound c.args.stack c.requires.stack 0 (omega arith)

pub lay_all-requires-clause-room : goal.lay_all-requires-clause-room
lay_all-requires-clause-room c =
    let s = ap (λ (s : Strip). s.y + s.pending) c.in_ok-at.ensures.strip in
    let room = head-room c.args.flows.now c.flow_counts-counts.ensures.sound c.args.stack c.requires.stack c.as_slice.result.now
    c.as_slice-2.result.now (c.as_slice.ensures ∙ c.opened_in.ensures)
    (c.as_slice-2.ensures ∙ ap (λ (s : Seam). s.head) c.seam_at.ensures.same) in
    omega arith

pub returns-clause-places : goal.returns-clause-places
returns-clause-places c =
    begin-places c.args.flows.now c.args.stack c.as_slice.result.now c.as_slice-2.result.now
    (c.as_slice.ensures ∙ c.opened_in.ensures) (c.as_slice-2.ensures ∙ ap (λ (s : Seam). s.head) c.seam_at.ensures.same)
    c.in_ok-at.at c.lay_all.new.self c.in_ok-at.ensures.strip c.in_ok-at.ensures.places c.in_ok-lay_all.ensures.leads

pub returns-clause-strip : goal.returns-clause-strip
returns-clause-strip c =
    begin-strip c.args.flows.now c.args.stack c.as_slice.result.now c.as_slice-2.result.now
    (c.as_slice.ensures ∙ c.opened_in.ensures) (c.as_slice-2.ensures ∙ ap (λ (s : Seam). s.head) c.seam_at.ensures.same)
    _ _ c.in_ok-at.ensures.strip c.in_ok-lay_all.ensures.leads.strip
