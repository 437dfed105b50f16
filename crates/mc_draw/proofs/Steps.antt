-- Lines one by one.
use Rattle.std.proofs.Common.{◌≡◌, ℕ, suc, ◌+◌, ◌<◌, ◌≤◌, List, [], ◌∷◌, ◌++◌, length, get_or, take, drop, refl, sym, ap, ◌∙◌}
use Rattle.std.proofs.Common.{Option, Some, None, append_assoc, add-one, cond, Bool}
use Rattle.std.proofs.Math.Seq.{drop-cons, take-suc}
use Rattle.std.proofs.Math.ListN.{drop_of_length-le}
use Rattle.std.proofs.lemmas.List.{append-nil}
use Rattle.std.proofs.lemmas.Bool.{eq-eqb, ne_eqb}
use lib.Dec.{eqb}
use Rattle.flow_list.specs.Data.{FlowsData}
use Rattle.flow_list.specs.Tree.{TreeLine as AnyLine}
use Rattle.tree_lines.specs.declared.line.TreeLine.{TreeLine}
use Rattle.tree_lines.specs.Lines.{kind_of, line_of, lines_of}
use Rattle.mc_draw.specs.declared.drawing.Shape.{Shape}
use Rattle.mc_draw.specs.Shapes.{shape_of, rule_before, shapes_after, last_above, or_this}

map_last : (before : List TreeLine) (x : TreeLine) → lines_of (before ++ x ∷ []) ≡ lines_of before ++ line_of x ∷ []
map_last [] x = refl
map_last (y ∷ ys) x = ap (λ (ls : List AnyLine). line_of y ∷ ls) (map_last ys x)

abbrev pub shapes_of : FlowsData → ℕ → List TreeLine → TreeLine → List Shape
shapes_of d rule before x = rule_before d rule (lines_of before) (kind_of x.kind) (line_of x) ++ shape_of (line_of x) ∷ []

next_line : (d : FlowsData) (rule : ℕ) (before after then later : List TreeLine) (x : TreeLine) → after ≡ x ∷ later
    → then ≡ before ++ x ∷ [] → shapes_after d rule (lines_of before) (lines_of after)
    ≡ shapes_of d rule before x ++ shapes_after d rule (lines_of then) (lines_of later)
unfolding shapes_after
next_line d rule before after then later x h k =
    let front = rule_before d rule (lines_of before) (kind_of x.kind) (line_of x) in
    ap (λ (ls : List TreeLine). shapes_after d rule (lines_of before) (lines_of ls)) h
    ∙ ap (λ (ls : List AnyLine). front ++ shape_of (line_of x) ∷ shapes_after d rule ls (lines_of later)) (sym
    (map_last before x))
    ∙ ap (λ (ls : List TreeLine). front ++ shape_of (line_of x) ∷ shapes_after d rule (lines_of ls) (lines_of later)) (sym k)
    ∙ sym (append_assoc front (shape_of (line_of x) ∷ []) (shapes_after d rule (lines_of then) (lines_of later)))

pub next_shapes : (d : FlowsData) (rule : ℕ) (ls : List TreeLine) (i : ℕ) (x : TreeLine) → i < length ls → x ≡ get_or ls i x
    → shapes_after d rule (lines_of (take i ls)) (lines_of (drop i ls))
    ≡ shapes_of d rule (take i ls) x ++ shapes_after d rule (lines_of (take (i + 1) ls)) (lines_of (drop (i + 1) ls))
next_shapes d rule ls i x h e = rw (add-one i) (next_line d rule (take i ls) (drop i ls) (take (suc i) ls) (drop (suc i) ls) x
    (drop-cons ls i x h ∙ ap (λ (y : TreeLine). y ∷ drop (suc i) ls) (sym e))
    (take-suc ls i x h ∙ ap (λ (y : TreeLine). take i ls ++ y ∷ []) (sym e)))

-- the last line above this depth among lines and one more
pub above_more : (depth : ℕ) (before : List AnyLine) (x : AnyLine) → last_above depth (before ++ x ∷ [])
    ≡ or_this (cond (eqb (x.depth + 1) depth) (Some x) None) (last_above depth before)
above_more depth [] x = by_own (cond (eqb (x.depth + 1) depth) (Some x) None)
  where
    by_own : (o : Option AnyLine) → or_this None o ≡ or_this o None
    by_own None = refl
    by_own (Some y) = refl
above_more depth (y ∷ ys) x =
    let own : Option AnyLine = cond (eqb (y.depth + 1) depth) (Some y) None in
    ap (λ (o : Option AnyLine). or_this o own) (above_more depth ys x)
    ∙ by_one (cond (eqb (x.depth + 1) depth) (Some x) None) (last_above depth ys) own
  where
    by_one : (a b c : Option AnyLine) → or_this (or_this a b) c ≡ or_this a (or_this b c)
    by_one None b c = refl
    by_one (Some z) b c = refl

pub next_above : (depth : ℕ) (ls : List TreeLine) (i : ℕ) (x : TreeLine) → i < length ls → x ≡ get_or ls i x
    → last_above depth (lines_of (take (i + 1) ls))
    ≡ or_this (cond (eqb (x.depth + 1) depth) (Some (line_of x)) None) (last_above depth (lines_of (take i ls)))
next_above depth ls i x h e = rw (add-one i)
    (ap (λ (l : List TreeLine). last_above depth (lines_of l))
    (take-suc ls i x h ∙ ap (λ (y : TreeLine). take i ls ++ y ∷ []) (sym e))
    ∙ ap (last_above depth) (map_last (take i ls) x) ∙ above_more depth (lines_of (take i ls)) (line_of x))

-- three parts, one after the other
pub three_parts : (out a b c x y z : List ℕ) → x ≡ out ++ a → y ≡ x ++ b → z ≡ y ++ c → z ≡ out ++ (a ++ (b ++ c))
three_parts out a b c x y z h k l =
    l ∙ ap (λ (t : List ℕ). t ++ c) (k ∙ ap (λ (t : List ℕ). t ++ b) h) ∙ append_assoc (out ++ a) b c
    ∙ append_assoc out a (b ++ c)

pub above_then : (depth : ℕ) (ls : List TreeLine) (i : ℕ) (x : TreeLine) → i < length ls → x ≡ get_or ls i x
    → x.depth + 1 ≡ depth → last_above depth (lines_of (take (i + 1) ls)) ≡ Some (line_of x)
above_then depth ls i x h e same = next_above depth ls i x h e
    ∙ ap (λ (b : Bool). or_this (cond b (Some (line_of x)) None) (last_above depth (lines_of (take i ls))))
    (eq-eqb (x.depth + 1) depth same)

pub above_else : (depth : ℕ) (ls : List TreeLine) (i : ℕ) (x : TreeLine) → i < length ls → x ≡ get_or ls i x
    → (x.depth + 1 ≡ depth → ⊥)
    → last_above depth (lines_of (take (i + 1) ls)) ≡ last_above depth (lines_of (take i ls))
above_else depth ls i x h e other = next_above depth ls i x h e
    ∙ ap (λ (b : Bool). or_this (cond b (Some (line_of x)) None) (last_above depth (lines_of (take i ls))))
    (ne_eqb (x.depth + 1) depth other)

pub part_added : (out new part rest more all : List Shape) → new ≡ out ++ part → more ≡ part ++ rest → out ++ more ≡ all
    → new ++ rest ≡ all
part_added out new part rest more all h k e =
    ap (λ (t : List Shape). t ++ rest) h ∙ append_assoc out part rest ∙ ap (λ (t : List Shape). out ++ t) (sym k) ∙ e

pub at_end : (d : FlowsData) (rule : ℕ) (before : List AnyLine) (ls : List TreeLine) (i : ℕ) (out : List Shape) → length ls ≤ i
    → out ++ shapes_after d rule before (lines_of (drop i ls)) ≡ out
unfolding shapes_after
at_end d rule before ls i out h =
    ap (λ (l : List TreeLine). out ++ shapes_after d rule before (lines_of l)) (drop_of_length-le ls h) ∙ append-nil out
