use Rattle.std.proofs.Common.{◌+◌, ◌∙◌, ap, arith, sum_by}
use Rattle.flow_list.specs.Data.{Seam}
use Rattle.flow_list.specs.Strip.{lay_all}
use Rattle.flow_data.specs.Flows.{amount, flow_of}
use Rattle.column_strip.specs.Strips.{strip_of}
use Rattle.container_layout.proofs.Rooms.{in-flows, item-room, some-seam}
use Rattle.container_layout.proofs.Walks.{next-laid}
use Rattle.container_layout.proofs.find.next_strip.Goals as goal

pub seam_at-seam-requires-clause-flow : goal.seam_at-seam-requires-clause-flow
seam_at-seam-requires-clause-flow c = in-flows c.args.flows.now c.flow_counts-counts.ensures.sound c.args.stack c.requires.stack

pub seam_at-seam-requires-clause-seam : goal.seam_at-seam-requires-clause-seam
seam_at-seam-requires-clause-seam c =
    let lt = c.requires.item in
    some-seam c.args.flows.now c.flow_counts-counts.ensures.sound c.args.stack c.requires.stack (c.args.k + 1) (omega arith)

pub past-requires : goal.past-requires
past-requires c =
    let room = item-room c.args.flows.now c.flow_counts-counts.ensures.sound c.args.stack c.requires.stack c.args.k
    (strip_of c.args.strip) c.requires.strip in
    let t = ap (sum_by amount) (c.as_slice.ensures ∙ ap (λ (s : Seam). s.tail) c.seam_at-seam.ensures.same) in
    let h = c.requires.height in
    omega arith

pub lay_all-requires : goal.lay_all-requires
lay_all-requires c =
    let room = item-room c.args.flows.now c.flow_counts-counts.ensures.sound c.args.stack c.requires.stack c.args.k
    (strip_of c.args.strip) c.requires.strip in
    let t = ap (sum_by amount) (c.as_slice.ensures ∙ ap (λ (s : Seam). s.tail) c.seam_at-seam.ensures.same) in
    let u = ap (sum_by amount) (c.as_slice-2.ensures ∙ ap (λ (s : Seam). s.head) c.seam_at-seam.ensures.same) in
    let h = c.requires.height in
    let r = c.past.ensures.room in
    omega arith

pub returns : goal.returns
returns c =
    c.lay_all.ensures.strip ∙ ap (λ s. lay_all s c.as_slice-2.result.now) c.past.ensures.strip
    ∙ next-laid c.args.flows.now c.args.stack.bound (flow_of c.args.flows.now c.args.stack.flow) c.args.k
    (strip_of c.args.strip) c.requires.strip c.args.height c.requires.height c.as_slice.result.now c.as_slice-2.result.now
    (c.as_slice.ensures ∙ ap (λ (s : Seam). s.tail) c.seam_at-seam.ensures.same)
    (c.as_slice-2.ensures ∙ ap (λ (s : Seam). s.head) c.seam_at-seam.ensures.same)
