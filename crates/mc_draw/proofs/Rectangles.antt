-- Rules stand between the rectangles of lines, and are no such rectangles.
use Rattle.std.proofs.Common.{◌≡◌, ℕ, List, [], ◌∷◌, ◌++◌, map, Bool, true, false, cond, Option, Some, None, refl, ap, ◌∙◌}
use lib.Dec.{eqb}
use Rattle.mc_base.specs.declared.units.Rect.{Rect}
use Rattle.flow_list.specs.Data.{FlowsData, RowInfo}
use Rattle.flow_list.specs.Tree.{TreeKind, TreeLine, stack, row, col, box, line, void, image, atom}
use Rattle.mc_draw.specs.declared.drawing.Shape.{Shape}
use Rattle.mc_draw.specs.declared.drawing.ShapeClass.{ShapeClass}
use Rattle.mc_draw.specs.declared.drawing.ShapeClass.TheVariants as classes
use Rattle.mc_draw.specs.Shapes.{class_of, shape_of, rect_of, rule_width, rule_rect, rule_drawn, rule_in, row_of_line, last_above}
use Rattle.mc_draw.specs.Shapes.{rule_before, shapes_after}
use Rattle.mc_draw.specs.Laws.{is_rule, without_rules}

abbrev AllRules : List Shape → Type 0
AllRules [] = Unit {0}
AllRules (s ∷ ss) = (s.class ≡ classes.Rule) × AllRules ss

dropped : (front rest : List Shape) → AllRules front → without_rules (front ++ rest) ≡ without_rules rest
dropped [] rest h = refl
dropped (s ∷ ss) rest h =
    ap (λ (c : ShapeClass). cond (is_rule c) (without_rules (ss ++ rest)) (s ∷ without_rules (ss ++ rest))) h.0
    ∙ dropped ss rest h.1

drawn_rules : (r : RowInfo) (rule : ℕ) (column : Rect) → AllRules (rule_drawn r rule column)
drawn_rules r rule column = by_width (eqb (rule_width r rule) 0)
  where
    by_width : (b : Bool) → AllRules (cond b [] (record { class = classes.Rule; rect = rule_rect r rule column } ∷ []))
    by_width true = tt
    by_width false = (refl, tt)

rules_in : (o : Option RowInfo) (rule : ℕ) (column : Rect) → AllRules (rule_in o rule column)
rules_in None rule column = tt
rules_in (Some r) rule column = drawn_rules r rule column

rules_before : (d : FlowsData) (rule : ℕ) (before : List TreeLine) (kind : TreeKind) (l : TreeLine)
    → AllRules (rule_before d rule before kind l)
rules_before d rule before (stack number) l = tt
rules_before d rule before (row number from) l = tt
rules_before d rule before (col index) l = by_index (eqb index 0)
  where
    by_index : (b : Bool) → AllRules (cond b [] (rule_in (row_of_line d (last_above l.depth before)) rule (rect_of l)))
    by_index true = tt
    by_index false = rules_in (row_of_line d (last_above l.depth before)) rule (rect_of l)
rules_before d rule before (box owner starts ends) l = tt
rules_before d rule before (line owner index) l = tt
rules_before d rule before (void owner) l = tt
rules_before d rule before (image owner) l = tt
rules_before d rule before (atom item) l = tt

no_rule : (kind : TreeKind) → is_rule (class_of kind) ≡ false
no_rule (stack number) = refl
no_rule (row number from) = refl
no_rule (col index) = refl
no_rule (box owner starts ends) = refl
no_rule (line owner index) = refl
no_rule (void owner) = refl
no_rule (image owner) = refl
no_rule (atom item) = refl

pub rectangles : (d : FlowsData) (rule : ℕ) (before lines : List TreeLine)
    → without_rules (shapes_after d rule before lines) ≡ map shape_of lines
unfolding shapes_after
rectangles d rule before [] = refl
rectangles d rule before (l ∷ ls) =
    let rest : List Shape = shapes_after d rule (before ++ l ∷ []) ls in
    dropped (rule_before d rule before l.kind l) (shape_of l ∷ rest) (rules_before d rule before l.kind l)
    ∙ ap (λ (b : Bool). cond b (without_rules rest) (shape_of l ∷ without_rules rest)) (no_rule l.kind)
    ∙ ap (λ (ss : List Shape). shape_of l ∷ ss) (rectangles d rule (before ++ l ∷ []) ls)
