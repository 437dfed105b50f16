use Rattle.std.proofs.Common.{sym}
use Rattle.mc_draw.proofs.ReadLemmas.{next_shape, shape_shorter}
use Rattle.mc_draw.proofs.read.shape_lines.Goals as goal

pub loop-shape-smaller : goal.loop-shape-smaller
loop-shape-smaller c = shape_shorter _ _ _ (sym c.in-Some.ensures)

pub loop-shape-preserved : goal.loop-shape-preserved
loop-shape-preserved c = next_shape _ _ _ _ _ _ (sym c.in-Some.ensures) c.in_ok-push.ensures.ok c.loop-shape.invariant
