use Rattle.std.proofs.Common.{ap, ◌+◌, arith}
use Rattle.flow_list.specs.Strip.{Strip}
use Rattle.column_strip.proofs.Rooms.{head-room, begin-before}
use Rattle.column_strip.proofs.passing.begin_at.Goals as goal

pub lay_all-requires : goal.lay_all-requires
lay_all-requires c =
    let e = ap (λ (s : Strip). s.y + s.pending) c.new.ensures in
    let r = head-room c.args.flows.now c.args.flow c.flow_counts-counts.ensures.sound c.requires.flow c.args.i c.args.across
    c.requires.across _ c.seam_at-seam.ensures.same _ c.as_slice.ensures in
    omega arith

pub returns-clause-before : goal.returns-clause-before
returns-clause-before c =
    let e = ap (λ (s : Strip). s.y + s.pending) c.new.ensures in
    let r = c.lay_all.ensures.room in
    begin-before c.args.flows.now c.args.flow c.flow_counts-counts.ensures.sound c.requires.flow c.args.i c.args.across
    c.requires.across _ c.seam_at-seam.ensures.same _ c.as_slice.ensures
    c.lay_all.result c.into_item.result (omega arith) c.into_item.ensures
