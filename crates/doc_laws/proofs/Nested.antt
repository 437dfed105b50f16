-- The boxes of a flow of a document are nested.
use Rattle.std.proofs.Common.{◌≡◌, ℕ, List, [], ◌∷◌, ◌++◌, Bool, true, false, map, refl, sym, ap, ◌∙◌, subst, append_assoc}
use Rattle.std.specs.Prelude.{reverse, flat_map, if◌then◌else◌, ◌==◌, ◌||◌}
use Rattle.std.proofs.lemmas.List.{reverse-append, map-append}
use Rattle.flow_data.specs.declared.data.Edge.{Edge}
use Rattle.flow_data.specs.declared.data.Edge.TheVariants.{Margin, Solid, Wall, Start, End}
use Rattle.flow_data.specs.declared.data.Seam.{Seam}
use Rattle.flow_data.specs.Soundness.{AreNested, edges_of}
use Rattle.box_data.specs.declared.tree.BoxKind.TheVariants.{Block as block_box, Anonymous as anonymous, Container as container}
use Rattle.box_data.specs.declared.tree.BoxKind.TheVariants.{ImageBlock as image_block}
use Rattle.box_data.specs.declared.placed.Placed.{Placed}
use Rattle.box_data.specs.Content.{Content, done, opens, closes, leaf, holds, spanner}
use Rattle.box_data.specs.DocumentFlows.{margin_edge, solid_edge, wall_edge, opening, closing, closed_first, opened_then}
use Rattle.box_data.specs.DocumentFlows.{seam_behind, seams_behind, Begun, flow_with}
use Rattle.doc_laws.proofs.Goes.{Goes}

abbrev pub numbers : List Placed → List ℕ
numbers ps = map (λ (p : Placed). p.number) ps

abbrev both : Seam → List Edge
both s = s.tail ++ s.head

behind_margin : (boxes : List ℕ) (u : ℕ) (edges : List Edge) → AreNested boxes edges → AreNested boxes (margin_edge u ++ edges)
behind_margin boxes u edges h = go (u == 0)
  where
    go : (v : Bool) → AreNested boxes ((if v then [] else Margin u ∷ []) ++ edges)
    go true = h
    go false = h

behind_solid : (boxes : List ℕ) (u : ℕ) (edges : List Edge) → AreNested boxes edges → AreNested boxes (solid_edge u ++ edges)
behind_solid boxes u edges h = go (u == 0)
  where
    go : (v : Bool) → AreNested boxes ((if v then [] else Solid u ∷ []) ++ edges)
    go true = h
    go false = h

behind_wall : (boxes : List ℕ) (p : Placed) (edges : List Edge) → AreNested boxes edges → AreNested boxes (wall_edge p ++ edges)
behind_wall boxes p edges h =
    go (elim (p.kind) as (λ k. Bool) [ block_box ↦ false | anonymous ↦ false | container ↦ true | image_block ↦ false ] || p.spans
    || p.number == 0)
  where
    go : (v : Bool) → AreNested boxes ((if v then Wall ∷ [] else []) ++ edges)
    go true = h
    go false = h

nested_opening : (boxes : List ℕ) (p : Placed) (edges : List Edge) → AreNested (p.number ∷ boxes) edges
    → AreNested boxes (opening p ++ edges)
nested_opening boxes p edges h =
    rw (append_assoc (margin_edge p.margin.top) (Start p.number ∷ (solid_edge p.top ++ wall_edge p)) edges)
    (behind_margin boxes p.margin.top (Start p.number ∷ ((solid_edge p.top ++ wall_edge p) ++ edges))
    (rw (append_assoc (solid_edge p.top) (wall_edge p) edges) (behind_solid (p.number ∷ boxes) p.top (wall_edge p ++ edges)
    (behind_wall (p.number ∷ boxes) p edges h))))

nested_closing : (boxes : List ℕ) (p : Placed) (edges : List Edge) → AreNested boxes edges
    → AreNested (p.number ∷ boxes) (closing p ++ edges)
nested_closing boxes p edges h =
    rw (append_assoc (wall_edge p) (solid_edge p.bottom ++ (End p.number ∷ margin_edge p.margin.bottom)) edges)
    (behind_wall (p.number ∷ boxes) p ((solid_edge p.bottom ++ (End p.number ∷ margin_edge p.margin.bottom)) ++ edges)
    (rw (append_assoc (solid_edge p.bottom) (End p.number ∷ margin_edge p.margin.bottom) edges)
    (behind_solid (p.number ∷ boxes) p.bottom (End p.number ∷ (margin_edge p.margin.bottom ++ edges)) (
      refl,
      behind_margin boxes p.margin.bottom edges h,
    ))))

-- the edges from a place in a head or in a tail on
abbrev from_head : List Placed → Content → List Edge
from_head at c = flat_map opening (opened_then c) ++ flat_map both (seams_behind at c)

abbrev edges_left : Bool → List Placed → Content → List Edge
edges_left true at c = from_head at c
edges_left false at c = flat_map closing (closed_first c) ++ from_head at c

behind_item : (at : List Placed) (next : Content) (edges : List Edge) → edges ≡ edges_left false at next
    → AreNested (numbers at) edges → AreNested (numbers at) (flat_map both (seam_behind at next ∷ seams_behind at next))
behind_item at next edges same h =
    rw (append_assoc (flat_map closing (closed_first next)) (flat_map opening (opened_then next))
    (flat_map both (seams_behind at next))) (subst (λ (es : List Edge). AreNested (numbers at) es) same h)

nested_left : (fresh : Bool) (at to : List Placed) (c : Content) → Goes false fresh at to c
    → AreNested (numbers at) (edges_left fresh at c)
nested_left true at to done h = tt
nested_left false at to done h = tt
nested_left true at to (opens p next) h =
    rw (append_assoc (opening p) (flat_map opening (opened_then next)) (flat_map both (seams_behind (p ∷ at) next)))
    (nested_opening (numbers at) p (from_head (p ∷ at) next) (nested_left true (p ∷ at) to next h))
nested_left false at to (opens p next) h =
    rw (append_assoc (opening p) (flat_map opening (opened_then next)) (flat_map both (seams_behind (p ∷ at) next)))
    (nested_opening (numbers at) p (from_head (p ∷ at) next) (nested_left true (p ∷ at) to next h))
nested_left true at to (closes p next) h = absurd (let no = h.0 in cc)
nested_left false at to (closes p next) h =
    subst (λ (o : List Placed). AreNested (numbers o) (edges_left false o (closes p next))) (sym h.2)
    (rw (append_assoc (closing p) (flat_map closing (closed_first next)) (from_head h.1 next))
    (nested_closing (numbers h.1) p (edges_left false h.1 next) (nested_left false h.1 to next h.3)))
nested_left true at to (leaf l next) h = behind_item at next (edges_left false at next) refl (nested_left false at to next h)
nested_left false at to (leaf l next) h = behind_item at next (edges_left false at next) refl (nested_left false at to next h)
nested_left true at to (holds i inside next) h = behind_item at next (edges_left false at next) refl
    (nested_left false at to next h.1)
nested_left false at to (holds i inside next) h = behind_item at next (edges_left false at next) refl
    (nested_left false at to next h.1)
nested_left fresh at to (spanner inside next) h = absurd (let no = h.0 in cc)

map-reverse : (ps : List Placed) → numbers (reverse ps) ≡ reverse (numbers ps)
map-reverse [] = refl
map-reverse (p ∷ ps) =
    let front : reverse (p ∷ ps) ≡ reverse ps ++ p ∷ [] = reverse-append (p ∷ []) ps in
    ap (λ (qs : List Placed). numbers qs) front ∙ map-append (λ (q : Placed). q.number) (reverse ps) (p ∷ [])
    ∙ ap (λ (ns : List ℕ). ns ++ p.number ∷ []) (map-reverse ps)
    ∙ sym (reverse-append (p.number ∷ []) (numbers ps))

-- the edges of a flow, which begins with no end of a box
pub flow_nested : (opened to : List Placed) (n : Begun) (c : Content) → Goes false true (reverse opened) to c
    → AreNested (reverse (flow_with opened n c).opened) (edges_of (flow_with opened n c))
flow_nested opened to n c h = subst (λ (o : List ℕ). AreNested o (from_head (reverse opened) c)) (map-reverse opened)
    (nested_left true (reverse opened) to c h)
