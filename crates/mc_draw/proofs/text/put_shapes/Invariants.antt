-- what stands there, and the shapes to come
use Rattle.std.proofs.Common.{◌≡◌, ◌++◌, drop}
use Rattle.std.specs.List.{flat_map}
use Rattle.mc_draw.specs.DrawingText.{shape_text}
use Rattle.mc_draw.proofs.text.put_shapes.Given as goal

abbrev pub invariant-loop-shape : goal.invariant-loop-shape
invariant-loop-shape l = l.out ++ flat_map shape_text (drop l.shape-index l.shapes) ≡ l.initial.out
    ++ flat_map shape_text l.shapes
