use Rattle.std.proofs.Common.{arith}
use Rattle.flow_list.proofs.Built.{all_built, line_more}
use Rattle.flow_list.proofs.build.build.Goals as goal

pub loop-line-preserved : goal.loop-line-preserved
loop-line-preserved c =
    line_more c.args.lines.now c.loop-line.line-index _ c.loop-line.parts c.in_ok-parts-2.parts (omega arith)
    c.in_ok-parts-2.ensures c.loop-line.invariant

pub returns : goal.returns
returns c file is = all_built c.args.lines.now c.loop-line.line-index c.loop-line.parts file (omega arith)
    c.loop-line.invariant is
