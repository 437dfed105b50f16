use Rattle.std.proofs.Common.{sym, ◌∙◌}
use Rattle.mc_draw.proofs.Steps.{next_shapes, part_added, at_end}
use Rattle.mc_draw.proofs.shapes.put_lines.Goals as goal

pub loop-i-preserved : goal.loop-i-preserved
loop-i-preserved c = part_added _ _ _ _ _ _ c.in_ok-put_line.ensures
    (next_shapes c.args.flows.now c.args.rule c.args.lines.now c.loop-i.i c.index-lines-i.result c.loop-i-test.true
    c.index-lines-i.is) c.loop-i.invariant

pub returns : goal.returns
returns c = sym (at_end c.args.flows.now c.args.rule _ c.args.lines.now c.loop-i.i c.loop-i.shapes c.loop-i-test.false)
    ∙ c.loop-i.invariant
