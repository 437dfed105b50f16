-- What a drawing shows of a tree.
use Rattle.std.specs.Prelude.{◌≡◌, ℕ, List, [], ◌∷◌, map, Bool, true, false, if◌then◌else◌}
use Rattle.flow_list.specs.Data.{FlowsData}
use Rattle.flow_list.specs.Tree.{TreeLine}
use Rattle.mc_draw.specs.declared.drawing.Shape.{Shape}
use Rattle.mc_draw.specs.declared.drawing.ShapeClass.{ShapeClass}
use Rattle.mc_draw.specs.declared.drawing.ShapeClass.TheVariants as classes
use Rattle.mc_draw.specs.Shapes.{shape_of, drawing_of}

abbrev pub is_rule : ShapeClass → Bool
is_rule classes.Rule = true
is_rule _ = false

abbrev pub without_rules : List Shape → List Shape
without_rules [] = []
without_rules (s ∷ ss) = if is_rule s.class then without_rules ss else (s ∷ without_rules ss)

-- all but the rules of a drawing are the rectangles of the lines, in order
abbrev pub RectanglesAreThoseOfLines : Type 0
RectanglesAreThoseOfLines = (d : FlowsData) (rule : ℕ) (lines : List TreeLine)
    → without_rules (drawing_of d rule lines).shapes ≡ map shape_of lines
