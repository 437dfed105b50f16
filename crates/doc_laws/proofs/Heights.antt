-- How high the flows of a document may be together.
use Rattle.std.proofs.Common.{◌≡◌, ℕ, suc, ◌+◌, ◌*◌, ◌^◌, ◌<◌, ◌≤◌, List, [], ◌∷◌, ◌++◌, length, map, Bool, true, false, refl}
use Rattle.std.proofs.Common.{sym, subst, arith, sum_by}
use Rattle.std.specs.Prelude.{flat_map, reverse, drop, if◌then◌else◌, ◌||◌, ◌==◌}
use Rattle.std.specs.List.{AllByRecursion}
use Rattle.std.proofs.lemmas.List.Sums.{sum_by-cons, sum_by-append}
use Rattle.std.proofs.lemmas.Grind.{flat_map-append}
use Rattle.flow_data.specs.declared.data.BoxInfo.{BoxInfo}
use Rattle.flow_data.specs.declared.data.Edge.{Edge}
use Rattle.flow_data.specs.declared.data.Edge.TheVariants.{Margin, Solid, Wall, Start, End}
use Rattle.flow_data.specs.declared.data.Flow.{Flow}
use Rattle.flow_data.specs.declared.data.FlowsData.{FlowsData}
use Rattle.flow_data.specs.declared.data.Seam.{Seam}
use Rattle.flow_data.specs.Flows.{box_of, atom_height, amount, started, starts_in}
use Rattle.flow_data.specs.Soundness.{flow_height}
use Rattle.box_data.specs.declared.placed.Placed.{Placed}
use Rattle.box_data.specs.declared.tree.BoxKind.TheVariants.{Block as block_box, Anonymous as anonymous, Container as container}
use Rattle.box_data.specs.declared.tree.BoxKind.TheVariants.{ImageBlock as image_block}
use Rattle.box_data.specs.Content.{Holder, stack, row, Content, done, opens, closes, leaf, holds, spanner}
use Rattle.box_data.specs.DocumentFlows.{margin_edge, solid_edge, wall_edge, opening, closing, closed_first, opened_then}
use Rattle.box_data.specs.DocumentFlows.{seam_behind, seams_behind, first_seam, Begun, begun_in, past, leaf_item, holder_item}
use Rattle.box_data.specs.DocumentFlows.{items_from, opened_in, flow_with, flows_from}
use Rattle.doc_laws.proofs.Lists.{split_all}
use Rattle.doc_laws.proofs.Nested.{numbers}
use Rattle.doc_laws.proofs.Everywhere.{Everywhere, InHolder}
use Rattle.doc_laws.proofs.Cloned.{Knows}
use Rattle.doc_laws.proofs.Rises.{Rises, rises_up}
use Rattle.doc_laws.proofs.Deep.{Deep}
use Rattle.doc_laws.proofs.Totals.{all_items, row_total}
use Rattle.doc_laws.proofs.Low.{AreLow, IsLow}

-- ---- how much stands in a content

abbrev opens_all : Content → ℕ
opens_all done = 0
opens_all (opens p next) = suc (opens_all next)
opens_all (closes p next) = opens_all next
opens_all (leaf l next) = opens_all next
opens_all (holds h inside next) = opens_all inside + opens_all next
opens_all (spanner inside next) = opens_all next

abbrev closes_all : Content → ℕ
closes_all done = 0
closes_all (opens p next) = closes_all next
closes_all (closes p next) = suc (closes_all next)
closes_all (leaf l next) = closes_all next
closes_all (holds h inside next) = closes_all inside + closes_all next
closes_all (spanner inside next) = closes_all next

abbrev opened_all : Content → ℕ
opened_all done = 0
opened_all (opens p next) = opened_all next
opened_all (closes p next) = opened_all next
opened_all (leaf l next) = opened_all next
opened_all (holds h inside next) = length (opened_in h) + opened_all inside + opened_all next
opened_all (spanner inside next) = opened_all next

abbrev weight : Content → ℕ
weight c = opens_all c + closes_all c + opened_all c + all_items c

opens-risen : (low high : ℕ) (c : Content) → Rises low high c → low + opens_all c ≤ high
opens-risen low high done h = omega arith
opens-risen low high (opens p next) h = omega (arith, opens-risen (suc low) high next h.1)
opens-risen low high (closes p next) h = opens-risen low high next h
opens-risen low high (leaf l next) h = opens-risen low high next h
opens-risen low high (holds i inside next) h = omega (arith, opens-risen low h.0 inside h.2, opens-risen h.0 high next h.3)
opens-risen low high (spanner inside next) h = omega (arith, rises_up low h.0 inside h.1, opens-risen h.0 high next h.2)

closes-deep : (limit outer a e : ℕ) (c : Content) → Deep limit outer a e c → closes_all c + e ≤ a + opens_all c + opened_all c
closes-deep limit outer a e done h = omega arith
closes-deep limit outer a e (opens p next) h = omega (arith, closes-deep limit outer (suc a) e next h.1)
closes-deep limit outer a e (closes p next) h = let one = h.1 in omega (arith, closes-deep limit outer h.0 e next h.2)
closes-deep limit outer a e (leaf l next) h = closes-deep limit outer a e next h
closes-deep limit outer a e (holds i inside next) h =
    omega (arith, closes-deep limit 0 (length (opened_in i)) h.1.0 inside h.1.1, closes-deep limit outer a e next h.2)
closes-deep limit outer a e (spanner inside next) h = closes-deep limit outer a e next h.1

opened-deep : (outer a e : ℕ) (c : Content) → Deep 65 outer a e c → opened_all c ≤ 65 * row_total c
opened-deep outer a e done h = omega arith
opened-deep outer a e (opens p next) h = opened-deep outer (suc a) e next h.1
opened-deep outer a e (closes p next) h = opened-deep outer h.0 e next h.2
opened-deep outer a e (leaf l next) h = opened-deep outer a e next h
opened-deep outer a e (holds (stack p) inside next) h = omega (
  arith,
  opened-deep 0 0 h.1.0 inside h.1.1,
  opened-deep outer a e next h.2,
)
opened-deep outer a e (holds (row p x is_last opened) inside next) h =
    let few = h.0 in omega (arith, opened-deep 0 (length opened) h.1.0 inside h.1.1, opened-deep outer a e next h.2)
opened-deep outer a e (spanner inside next) h = opened-deep outer a e next h.1

-- ---- edges

abbrev cloned : FlowsData → ℕ → ℕ
cloned d b = (box_of d b).top + (box_of d b).bottom

-- the cloned edges of the box that an edge starts
abbrev cloned_at : FlowsData → Edge → ℕ
cloned_at d e = sum_by (cloned d) (started e)

abbrev seam_sum : (Edge → ℕ) → Seam → ℕ
seam_sum g s = sum_by g s.tail + sum_by g s.head

abbrev edge_sum : (Edge → ℕ) → List Placed → Content → ℕ
edge_sum g at c = sum_by g (flat_map closing (closed_first c)) + sum_by g (flat_map opening (opened_then c)) + sum_by (seam_sum g)
    (seams_behind at c)

-- the box is small, and the data has it
abbrev pub Small : FlowsData → Placed → Type 0
Small d p = IsLow p × Knows d p

cloned_low : (d : FlowsData) (p : Placed) → Small d p → cloned d p.number ≤ 2 ^ 26
cloned_low d p s = subst (λ (b : BoxInfo). b.top + b.bottom ≤ 2 ^ 26) (sym s.1) (go p.style.cloned)
  where
    go : (v : Bool) → (if v then p.top else 0) + (if v then p.bottom else 0) ≤ 2 ^ 26
    go true = omega (arith, s.0.top, s.0.bottom)
    go false = omega arith

margin_amount : (u : ℕ) → sum_by amount (margin_edge u) ≤ u
margin_amount u = go (u == 0)
  where
    go : (v : Bool) → sum_by amount (if v then [] else Margin u ∷ []) ≤ u
    go true = omega arith
    go false = omega arith

solid_amount : (u : ℕ) → sum_by amount (solid_edge u) ≤ u
solid_amount u = go (u == 0)
  where
    go : (v : Bool) → sum_by amount (if v then [] else Solid u ∷ []) ≤ u
    go true = omega arith
    go false = omega arith

wall_amount : (p : Placed) → sum_by amount (wall_edge p) ≤ 0
wall_amount p = go (elim (p.kind) as
    (λ k. Bool) [ block_box ↦ false | anonymous ↦ false | container ↦ true | image_block ↦ false ] || p.spans || p.number == 0)
  where
    go : (v : Bool) → sum_by amount (if v then Wall ∷ [] else []) ≤ 0
    go true = omega arith
    go false = omega arith

margin_cloned : (d : FlowsData) (u : ℕ) → sum_by (cloned_at d) (margin_edge u) ≤ 0
margin_cloned d u = go (u == 0)
  where
    go : (v : Bool) → sum_by (cloned_at d) (if v then [] else Margin u ∷ []) ≤ 0
    go true = omega arith
    go false = omega arith

solid_cloned : (d : FlowsData) (u : ℕ) → sum_by (cloned_at d) (solid_edge u) ≤ 0
solid_cloned d u = go (u == 0)
  where
    go : (v : Bool) → sum_by (cloned_at d) (if v then [] else Solid u ∷ []) ≤ 0
    go true = omega arith
    go false = omega arith

wall_cloned : (d : FlowsData) (p : Placed) → sum_by (cloned_at d) (wall_edge p) ≤ 0
wall_cloned d p = go (elim (p.kind) as
    (λ k. Bool) [ block_box ↦ false | anonymous ↦ false | container ↦ true | image_block ↦ false ] || p.spans || p.number == 0)
  where
    go : (v : Bool) → sum_by (cloned_at d) (if v then Wall ∷ [] else []) ≤ 0
    go true = omega arith
    go false = omega arith

opening_sum : (g : Edge → ℕ) (p : Placed) → sum_by g (opening p)
    ≡ sum_by g (margin_edge p.margin.top) + (g (Start p.number) + (sum_by g (solid_edge p.top) + sum_by g (wall_edge p)))
opening_sum g p =
    let a = sum_by-append g (margin_edge p.margin.top) (Start p.number ∷ (solid_edge p.top ++ wall_edge p)) in
    let b = sum_by-cons g (Start p.number) (solid_edge p.top ++ wall_edge p) in
    let c = sum_by-append g (solid_edge p.top) (wall_edge p) in
    omega arith

closing_sum : (g : Edge → ℕ) (p : Placed) → sum_by g (closing p)
    ≡ sum_by g (wall_edge p) + (sum_by g (solid_edge p.bottom) + (g (End p.number) + sum_by g (margin_edge p.margin.bottom)))
closing_sum g p =
    let a = sum_by-append g (wall_edge p) (solid_edge p.bottom ++ (End p.number ∷ margin_edge p.margin.bottom)) in
    let b = sum_by-append g (solid_edge p.bottom) (End p.number ∷ margin_edge p.margin.bottom) in
    let c = sum_by-cons g (End p.number) (margin_edge p.margin.bottom) in
    omega arith

opening_amount : (d : FlowsData) (p : Placed) → Small d p → sum_by amount (opening p) ≤ 2 ^ 26
opening_amount d p s =
    let a = opening_sum amount p in
    let m = margin_amount p.margin.top in let b = solid_amount p.top in let w = wall_amount p in
    let top = s.0.lengths.0 in let side = s.0.top in
    omega arith

closing_amount : (d : FlowsData) (p : Placed) → Small d p → sum_by amount (closing p) ≤ 2 ^ 26
closing_amount d p s =
    let a = closing_sum amount p in
    let m = margin_amount p.margin.bottom in let b = solid_amount p.bottom in let w = wall_amount p in
    let bottom = s.0.lengths.1.1.0 in let side = s.0.bottom in
    omega arith

opening_cloned : (d : FlowsData) (p : Placed) → Small d p → sum_by (cloned_at d) (opening p) ≤ 2 ^ 26
opening_cloned d p s =
    let a = opening_sum (cloned_at d) p in
    let m = margin_cloned d p.margin.top in let b = solid_cloned d p.top in let w = wall_cloned d p in
    let c = cloned_low d p s in
    let one = sum_by-cons (cloned d) p.number [] in
    omega arith

closing_cloned : (d : FlowsData) (p : Placed) → sum_by (cloned_at d) (closing p) ≤ 0
closing_cloned d p =
    let a = closing_sum (cloned_at d) p in
    let m = margin_cloned d p.margin.bottom in let b = solid_cloned d p.bottom in let w = wall_cloned d p in
    omega arith

cloned-started : (d : FlowsData) (edges : List Edge) → sum_by (cloned d) (flat_map started edges) ≡ sum_by (cloned_at d) edges
cloned-started d [] = refl
cloned-started d (e ∷ edges) =
    omega (
      arith,
      cloned-started d edges,
      sum_by-append (cloned d) (started e) (flat_map started edges),
      sum_by-cons (cloned_at d) e edges,
    )

cloned-starts : (d : FlowsData) (seams : List Seam) → sum_by (cloned d) (starts_in seams) ≤ sum_by (seam_sum (cloned_at d)) seams
cloned-starts d [] = omega arith
cloned-starts d (s ∷ seams) =
    let here = cloned-started d s.head in
    let rest = cloned-starts d seams in
    let split = sum_by-append (cloned d) (flat_map started s.head) (starts_in seams) in
    let first = sum_by-cons (seam_sum (cloned_at d)) s seams in
    omega arith

-- ---- flows

abbrev own_height : FlowsData → Begun → List Placed → Content → ℕ
own_height d n at c = sum_by atom_height (items_from n c) + edge_sum amount at c + edge_sum (cloned_at d) at c

opened_cloned : (d : FlowsData) (ps : List Placed) → AllByRecursion (Small d) ps
    → sum_by (cloned d) (numbers ps) ≤ 2 ^ 26 * length ps
opened_cloned d [] h = omega arith
opened_cloned d (p ∷ ps) h = omega (
  arith,
  sum_by-cons (cloned d) p.number (numbers ps),
  cloned_low d p h.0,
  opened_cloned d ps h.1,
)

flow-height : (d : FlowsData) (opened : List Placed) (n : Begun) (c : Content) → AllByRecursion (Small d) opened
    → flow_height d (flow_with opened n c) ≤ own_height d n (reverse opened) c + 2 ^ 26 * length opened
flow-height d opened n c small =
    let seams = seams_behind (reverse opened) c in
    let edges = sum_by-cons (seam_sum amount) (first_seam c) seams in
    let boxes = cloned-starts d (first_seam c ∷ seams) in
    let starts = sum_by-cons (seam_sum (cloned_at d)) (first_seam c) seams in
    let both = sum_by-append (cloned d) (numbers opened) (starts_in (first_seam c ∷ seams)) in
    let open_cloned = opened_cloned d opened small in
    omega arith

edge_sum-opens : (g : Edge → ℕ) (p : Placed) (at : List Placed) (next : Content)
    → edge_sum g at (opens p next) ≤ sum_by g (opening p) + edge_sum g (p ∷ at) next
edge_sum-opens g p at next = omega (arith, sum_by-append g (opening p) (flat_map opening (opened_then next)))

edge_sum-closes : (g : Edge → ℕ) (p : Placed) (at : List Placed) (next : Content)
    → edge_sum g at (closes p next) ≡ sum_by g (closing p) + edge_sum g (drop 1 at) next
edge_sum-closes g p at next = omega (arith, sum_by-append g (closing p) (flat_map closing (closed_first next)))

edge_sum-item : (g : Edge → ℕ) (at : List Placed) (next : Content)
    → sum_by (seam_sum g) (seam_behind at next ∷ seams_behind at next) ≡ edge_sum g at next
edge_sum-item g at next = sum_by-cons (seam_sum g) (seam_behind at next) (seams_behind at next)

abbrev pub flow_atoms : Flow → List ℕ
flow_atoms f = map atom_height f.items

heights : (d : FlowsData) (n : Begun) (at : List Placed) (c : Content) → Everywhere (Small d) c
    → AreLow (map atom_height (items_from n c)) → AreLow (flat_map flow_atoms (flows_from n c))
    → own_height d n at c + sum_by (flow_height d) (flows_from n c) ≤ 2 ^ 27 * weight c
heights d n at done h own inner = omega arith
heights d n at (opens p next) h own inner =
    let behind = heights d n (p ∷ at) next h.1 own inner in
    let a = edge_sum-opens amount p at next in
    let b = edge_sum-opens (cloned_at d) p at next in
    let height = opening_amount d p h.0 in
    let clones = opening_cloned d p h.0 in
    omega arith
heights d n at (closes p next) h own inner =
    let behind = heights d n (drop 1 at) next h.1 own inner in
    let a = edge_sum-closes amount p at next in
    let b = edge_sum-closes (cloned_at d) p at next in
    let height = closing_amount d p h.0 in
    let clones = closing_cloned d p in
    omega arith
heights d n at (leaf l next) h own inner =
    let behind = heights d n at next h.1 own.1 inner in
    let first = sum_by-cons atom_height (leaf_item l) (items_from n next) in
    let a = edge_sum-item amount at next in
    let b = edge_sum-item (cloned_at d) at next in
    let here = own.0 in
    omega arith
heights d n at (holds i inside next) h own inner =
    let m = begun_in n i in
    let m' = past m inside in
    let parts = split_all (λ k. k ≤ 2 ^ 24) (map atom_height (items_from m inside))
    (flat_map flow_atoms (flows_from m inside ++ flows_from m' next)) inner in
    let flows = split_all (λ k. k ≤ 2 ^ 24) (flat_map flow_atoms (flows_from m inside)) (flat_map flow_atoms (flows_from m' next))
    (subst (λ (ns : List ℕ). AreLow ns) (flat_map-append flow_atoms (flows_from m inside) (flows_from m' next)) parts.1) in
    let within = heights d m (reverse (opened_in i)) inside h.1 parts.0 flows.0 in
    let behind = heights d m' at next h.2 own.1 flows.1 in
    let item = sum_by-cons atom_height (holder_item n i) (items_from m' next) in
    let a = edge_sum-item amount at next in
    let b = edge_sum-item (cloned_at d) at next in
    let here = flow-height d (opened_in i) m inside (opened_are i h.0) in
    let first = sum_by-cons (flow_height d) (flow_with (opened_in i) m inside) (flows_from m inside ++ flows_from m' next) in
    let split = sum_by-append (flow_height d) (flows_from m inside) (flows_from m' next) in
    let low = own.0 in
    omega arith
  where
    opened_are : (i : Holder) → InHolder (Small d) i → AllByRecursion (Small d) (opened_in i)
    opened_are (stack p) s = tt
    opened_are (row p x is_last opened) s = s.1
heights d n at (spanner inside next) h own inner = let behind = heights d n at next h.1 own inner in omega arith

pub flow-heights : (d : FlowsData) (n : Begun) (c : Content) → Everywhere (Small d) c
    → AreLow (flat_map flow_atoms (flow_with [] n c ∷ flows_from n c))
    → sum_by (flow_height d) (flow_with [] n c ∷ flows_from n c) ≤ 2 ^ 27 * weight c
flow-heights d n c h low =
    let parts = split_all (λ k. k ≤ 2 ^ 24) (map atom_height (items_from n c)) (flat_map flow_atoms (flows_from n c)) low in
    let first = sum_by-cons (flow_height d) (flow_with [] n c) (flows_from n c) in
    let here = flow-height d [] n c tt in
    let all = heights d n [] c h parts.0 parts.1 in
    omega arith

-- where few boxes, rows and items are
pub low-heights : (d : FlowsData) (n : Begun) (c : Content) (boxes : ℕ) → Everywhere (Small d) c
    → AreLow (flat_map flow_atoms (flow_with [] n c ∷ flows_from n c))
    → Rises 0 boxes c → boxes ≤ 3 * 2 ^ 28 → Deep 65 0 0 0 c → row_total c ≤ 100000 → all_items c ≤ 200000
    → sum_by (flow_height d) (flow_with [] n c ∷ flows_from n c) < 2 ^ 60
low-heights d n c boxes h low rises few deep rows items =
    let all = flow-heights d n c h low in
    let a = opens-risen 0 boxes c rises in
    let b = closes-deep 65 0 0 0 c deep in
    let e = opened-deep 0 0 0 c deep in
    omega arith
