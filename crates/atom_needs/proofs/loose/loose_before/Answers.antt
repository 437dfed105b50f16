use Rattle.std.proofs.Common.{ap, ◌+◌, ◌∷◌, [], refl, arith}
use Rattle.flow_list.specs.Strip.{Strip}
use Rattle.column_strip.proofs.Rooms.{head-room, begin-before}
use Rattle.atom_needs.proofs.loose.loose_before.Goals as goal

pub lay_all-requires : goal.lay_all-requires
lay_all-requires c =
    let e = ap (λ (s : Strip). s.y + s.pending) c.new.ensures in
    let r = head-room c.args.flows.now c.args.flow c.flow_counts-counts.ensures.sound c.requires.flow c.args.k c.args.across
    c.requires.across _ c.seam_at-seam.ensures.same _ c.as_slice.ensures in
    omega arith

pub returns-clause-before : goal.returns-clause-before
returns-clause-before c =
    let e = ap (λ (s : Strip). s.y + s.pending) c.new.ensures in
    let r = c.lay_all.ensures.room in
    begin-before c.args.flows.now c.args.flow c.flow_counts-counts.ensures.sound c.requires.flow c.args.k c.args.across
    c.requires.across _ c.seam_at-seam.ensures.same _ c.as_slice.ensures
    c.lay_all.result c.args.here (omega arith) c.requires.here (c.args.k ∷ []) refl
