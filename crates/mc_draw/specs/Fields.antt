-- What is read at the front of bytes of a drawing, field by field, and what follows it.
use Rattle.std.specs.Prelude.{ℕ, nat_eq, List, [], ◌∷◌, length, drop, if◌then◌else◌, Option, Some, None, codes}
use Rattle.std.specs.List.{starts_with}
use Rattle.mc_base.specs.Finding.{◌>>=◌}
use Rattle.mc_base.specs.declared.units.Rect.{Rect}
use Rattle.flow_text.specs.Numbers.{number_at}
use Rattle.mc_draw.specs.declared.drawing.Shape.{Shape}
use Rattle.mc_draw.specs.declared.drawing.ShapeClass.{ShapeClass}
use Rattle.mc_draw.specs.declared.drawing.ShapeClass.TheVariants as classes
use Rattle.mc_draw.specs.DrawingText.{class_text}

-- what follows these bytes
abbrev pub past : List ℕ → List ℕ → Option (List ℕ)
past front bytes = if starts_with nat_eq bytes front then Some (drop (length front) bytes) else None

-- the number after these bytes
abbrev pub numbered_at : List ℕ → List ℕ → Option (ℕ × List ℕ)
numbered_at front bytes = past front bytes >>= λ rest. number_at rest

abbrev pub or_else : {A : Type 0} → Option A → Option A → Option A
or_else None other = other
or_else (Some x) other = Some x

-- the first of these classes whose word stands there
abbrev pub first_class : List ShapeClass → List ℕ → Option (ShapeClass × List ℕ)
first_class [] bytes = None
first_class (c ∷ cs) bytes = or_else (past (class_text c) bytes >>= λ rest. Some (c, rest)) (first_class cs bytes)

abbrev pub all_classes : List ShapeClass
all_classes =
    classes.Stack ∷ classes.Row ∷ classes.Col ∷ classes.Piece ∷ classes.Line ∷ classes.Void ∷ classes.Image ∷ classes.Atom
    ∷ classes.Rule ∷ []

unfoldable pub class_at : List ℕ → Option (ShapeClass × List ℕ)
class_at bytes = first_class all_classes bytes

unfoldable pub rect_at : List ℕ → Option (Rect × List ℕ)
rect_at bytes = numbered_at (codes "\" x=\"") bytes >>= λ x. numbered_at (codes "\" y=\"") x.1 >>= λ y.
    numbered_at (codes "\" width=\"") y.1 >>= λ w. numbered_at (codes "\" height=\"") w.1 >>= λ h.
    past (codes "\"/>\n") h.1 >>= λ rest. Some (record { x = x.0; y = y.0; w = w.0; h = h.0 }, rest)

unfoldable pub shape_at : List ℕ → Option (Shape × List ℕ)
shape_at bytes = past (codes "<rect class=\"") bytes >>= λ rest. class_at rest >>= λ class. rect_at class.1 >>= λ rect.
    Some (record { class = class.0; rect = rect.0 }, rect.1)

unfoldable pub head_at : List ℕ → Option (ℕ × ℕ × List ℕ)
head_at bytes = numbered_at (codes "<svg xmlns=\"http://www.w3.org/2000/svg\" viewBox=\"0 0 ") bytes >>= λ w.
    numbered_at (codes " ") w.1 >>= λ h. past (codes "\">\n") h.1 >>= λ rest. Some (w.0, h.0, rest)
