-- The text of a drawing (SVG 2, sections 8.2 and 10.2), as the project writes it: a line for each rectangle.
use Rattle.std.specs.Prelude.{ℕ, List, ◌++◌, codes}
use Rattle.std.specs.List.{flat_map}
use Rattle.std.specs.Fmt.{decimal}
use Rattle.mc_base.specs.declared.units.Rect.{Rect}
use Rattle.mc_draw.specs.declared.drawing.Drawing.{Drawing}
use Rattle.mc_draw.specs.declared.drawing.Shape.{Shape}
use Rattle.mc_draw.specs.declared.drawing.ShapeClass.{ShapeClass}
use Rattle.mc_draw.specs.declared.drawing.ShapeClass.TheVariants as classes

abbrev pub class_text : ShapeClass → List ℕ
class_text classes.Stack = codes "stack"
class_text classes.Row = codes "row"
class_text classes.Col = codes "col"
class_text classes.Piece = codes "box"
class_text classes.Line = codes "line"
class_text classes.Void = codes "void"
class_text classes.Image = codes "image"
class_text classes.Atom = codes "atom"
class_text classes.Rule = codes "rule"

-- a number after a text
abbrev pub numbered : List ℕ → ℕ → List ℕ
numbered front n = front ++ decimal n

unfoldable pub rect_text : Rect → List ℕ
rect_text r =
    numbered (codes "\" x=\"") r.x ++ (numbered (codes "\" y=\"") r.y ++ (numbered (codes "\" width=\"") r.w
    ++ (numbered (codes "\" height=\"") r.h ++ codes "\"/>\n")))

unfoldable pub shape_text : Shape → List ℕ
shape_text s = codes "<rect class=\"" ++ (class_text s.class ++ rect_text s.rect)

unfoldable pub head_text : (w h : ℕ) → List ℕ
head_text w h =
    numbered (codes "<svg xmlns=\"http://www.w3.org/2000/svg\" viewBox=\"0 0 ") w ++ (numbered (codes " ") h ++ codes "\">\n")

unfoldable pub foot_text : List ℕ
foot_text = codes "</svg>\n"

abbrev pub drawing_text : Drawing → List ℕ
drawing_text d = head_text d.w d.h ++ (flat_map shape_text d.shapes ++ foot_text)
