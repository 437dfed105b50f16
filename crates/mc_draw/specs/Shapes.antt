-- The shapes of a drawing: the rectangles of the lines of a tree, in order, and a rule in each gap between two neighbouring
-- columns of a piece of a row. A rule takes no room and stands in the middle of its gap (CSS Multi-column Layout 1, section 4.3).
-- That a rule is never wider than its gap is the project's own.
use Rattle.std.specs.Prelude.{ℕ, ◌+◌, ◌-◌, ◌/◌, ◌==◌, min, List, [], ◌∷◌, ◌++◌, if◌then◌else◌, Option, Some, None, slice_get}
use Rattle.mc_base.specs.declared.units.Rect.{Rect}
use Rattle.flow_list.specs.Data.{FlowsData, RowInfo}
use Rattle.flow_list.specs.Tree.{TreeKind, TreeLine, stack, row, col, box, line, void, image, atom}
use Rattle.mc_draw.specs.declared.drawing.Drawing.{Drawing}
use Rattle.mc_draw.specs.declared.drawing.Shape.{Shape}
use Rattle.mc_draw.specs.declared.drawing.ShapeClass.{ShapeClass}
use Rattle.mc_draw.specs.declared.drawing.ShapeClass.TheVariants as classes

abbrev pub class_of : TreeKind → ShapeClass
class_of (stack number) = classes.Stack
class_of (row number from) = classes.Row
class_of (col index) = classes.Col
class_of (box owner starts ends) = classes.Piece
class_of (line owner index) = classes.Line
class_of (void owner) = classes.Void
class_of (image owner) = classes.Image
class_of (atom item) = classes.Atom

abbrev pub rect_of : TreeLine → Rect
rect_of l = record { x = l.x; y = l.y; w = l.w; h = l.h }

abbrev pub shape_of : TreeLine → Shape
shape_of l = record { class = class_of l.kind; rect = rect_of l }

-- Rules.

-- the gap between two neighbouring columns of a row
abbrev pub gap_of : RowInfo → ℕ
gap_of r = r.step - r.w

abbrev pub rule_width : RowInfo → (rule : ℕ) → ℕ
rule_width r rule = min rule (gap_of r)

-- The rule to the left of a column that stands there: from the right edge of the column before it half of what the gap has more
-- than the rule's width, rounded down; as high as the column.
abbrev pub rule_rect : RowInfo → (rule : ℕ) → Rect → Rect
rule_rect r rule column = record {
  x = ((column.x - r.step) + r.w) + (gap_of r - rule_width r rule) / 2;
  y = column.y;
  w = rule_width r rule;
  h = column.h;
}

-- one of width 0 isn't drawn
abbrev pub rule_drawn : RowInfo → (rule : ℕ) → Rect → List Shape
rule_drawn r rule column =
    if rule_width r rule == 0 then [] else (record { class = classes.Rule; rect = rule_rect r rule column } ∷ [])

abbrev pub or_this : Option TreeLine → Option TreeLine → Option TreeLine
or_this None other = other
or_this (Some l) other = Some l

-- what a line of this depth stands in: the last of the lines before it that is one less deep
abbrev pub last_above : (depth : ℕ) → List TreeLine → Option TreeLine
last_above depth [] = None
last_above depth (l ∷ ls) = or_this (last_above depth ls) (if l.depth + 1 == depth then Some l else None)

-- the row that a line is a piece of
abbrev pub row_of_kind : FlowsData → TreeKind → Option RowInfo
row_of_kind d (stack number) = None
row_of_kind d (row number from) = slice_get d.rows number
row_of_kind d (col index) = None
row_of_kind d (box owner starts ends) = None
row_of_kind d (line owner index) = None
row_of_kind d (void owner) = None
row_of_kind d (image owner) = None
row_of_kind d (atom item) = None

abbrev pub row_of_line : FlowsData → Option TreeLine → Option RowInfo
row_of_line d None = None
row_of_line d (Some l) = row_of_kind d l.kind

abbrev pub rule_in : Option RowInfo → (rule : ℕ) → Rect → List Shape
rule_in None rule column = []
rule_in (Some r) rule column = rule_drawn r rule column

-- a column with one before it in its row, the row of the line that it stands in, has a rule
abbrev pub rule_before : FlowsData → (rule : ℕ) → (before : List TreeLine) → TreeKind → TreeLine → List Shape
rule_before d rule before (stack number) l = []
rule_before d rule before (row number from) l = []
rule_before d rule before (col index) l =
    if index == 0 then [] else rule_in (row_of_line d (last_above l.depth before)) rule (rect_of l)
rule_before d rule before (box owner starts ends) l = []
rule_before d rule before (line owner index) l = []
rule_before d rule before (void owner) l = []
rule_before d rule before (image owner) l = []
rule_before d rule before (atom item) l = []

-- the shapes of lines that stand after these
unfoldable pub shapes_after : FlowsData → (rule : ℕ) → (before : List TreeLine) → List TreeLine → List Shape
shapes_after d rule before [] = []
shapes_after d rule before (l ∷ ls) =
    rule_before d rule before l.kind l ++ shape_of l ∷ shapes_after d rule (before ++ l ∷ []) ls

abbrev pub width_of : List TreeLine → ℕ
width_of [] = 0
width_of (l ∷ ls) = l.w

abbrev pub height_of : List TreeLine → ℕ
height_of [] = 0
height_of (l ∷ ls) = l.h

-- the drawing of these lines, which is as large as the first, with rules of this width
abbrev pub drawing_of : FlowsData → (rule : ℕ) → List TreeLine → Drawing
drawing_of d rule lines = record { w = width_of lines; h = height_of lines; shapes = shapes_after d rule [] lines }
