use Rattle.std.proofs.Common.{ap, ◌+◌, arith}
use Rattle.flow_list.specs.Strip.{Strip}
use Rattle.column_strip.proofs.Rooms.{resume-before}
use Rattle.column_strip.proofs.passing.resume_in.Goals as goal

pub returns-clause-before : goal.returns-clause-before
returns-clause-before c =
    let e = ap (λ (s : Strip). s.y + s.pending) c.new.ensures in
    resume-before c.args.flows.now c.args.flow c.flow_counts-counts.ensures.sound c.requires.flow c.args.i _
    c.seam_at.ensures.same
    c.new.result c.into_item-boxes.result (omega arith) c.into_item-boxes.ensures
