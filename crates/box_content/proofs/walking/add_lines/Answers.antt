use Rattle.std.proofs.Common.{arith, ◌∙◌}
use Rattle.box_content.proofs.CutSteps.{lines_more}
use Rattle.box_content.proofs.walking.add_lines.Goals as goal

pub loop-index-preserved : goal.loop-index-preserved
loop-index-preserved c =
    c.in_ok-push.ensures.items
    ∙ lines_more c.args.place.now.number c.loop-index.index c.args.place.now.lines c.loop-index.so_far.items
    c.args.so_far.now.items
    (omega arith) c.loop-index.invariant
