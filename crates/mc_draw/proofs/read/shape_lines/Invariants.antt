-- the lines so far, and the bytes to come
use Rattle.std.proofs.Common.{◌≡◌, ◌++◌, length}
use Rattle.std.specs.List.{flat_map}
use Rattle.mc_draw.specs.DrawingText.{shape_text}
use Rattle.mc_draw.specs.ReadBack.{AreFit}
use Rattle.mc_draw.proofs.read.shape_lines.Given as goal

abbrev pub invariant-loop-shape : goal.invariant-loop-shape
invariant-loop-shape l = (l.bytes ≡ flat_map shape_text l.shapes ++ l.rest) × AreFit l.shapes

abbrev pub decreases-loop-shape : goal.decreases-loop-shape
decreases-loop-shape l = length l.rest
