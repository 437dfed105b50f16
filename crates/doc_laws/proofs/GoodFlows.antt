-- Each flow of a document: its boxes are nested, apart and not empty, starts stand in heads and ends in tails.
use Rattle.std.proofs.Common.{◌≡◌, ℕ, suc, ◌+◌, ◌<◌, ◌≤◌, List, [], ◌∷◌, ◌++◌, length, Bool, true, false, refl, sym, ap, ◌∙◌}
use Rattle.std.proofs.Common.{subst, arith}
use Rattle.std.specs.Prelude.{flat_map, reverse, if◌then◌else◌, ◌==◌, ◌||◌}
use Rattle.std.specs.List.{AllByRecursion}
use Rattle.std.proofs.lemmas.List.{reverse-append, reverse-reverse, map-append}
use Rattle.std.proofs.lemmas.Grind.{flat_map-append}
use Rattle.flow_data.specs.declared.data.Edge.TheVariants.{Margin, Solid, Wall, Start}
use Rattle.flow_data.specs.declared.data.Flow.{Flow}
use Rattle.flow_data.specs.declared.data.Seam.{Seam}
use Rattle.flow_data.specs.Flows.{started, ended}
use Rattle.flow_data.specs.Soundness.{AreNested, edges_of}
use Rattle.box_data.specs.declared.tree.BoxKind.TheVariants.{Block as block_box, Anonymous as anonymous, Container as container}
use Rattle.box_data.specs.declared.tree.BoxKind.TheVariants.{ImageBlock as image_block}
use Rattle.box_data.specs.declared.placed.Placed.{Placed}
use Rattle.box_data.specs.Content.{Content, done, opens, closes, leaf, holds, spanner}
use Rattle.box_data.specs.DocumentFlows.{margin_edge, solid_edge, wall_edge, opening, closed_first, opened_then, seam_behind}
use Rattle.box_data.specs.DocumentFlows.{seams_behind, first_seam, Begun, begun_in, past, items_from, opened_in, flow_with}
use Rattle.box_data.specs.DocumentFlows.{flows_from}
use Rattle.doc_laws.proofs.Lists.{join_all}
use Rattle.doc_laws.proofs.Goes.{Goes}
use Rattle.doc_laws.proofs.Nested.{numbers, flow_nested}
use Rattle.doc_laws.proofs.Rises.{Rises, Falls, rises_up}
use Rattle.doc_laws.proofs.Ordered.{flow_ordered, item-follows, tails-start-none}
use Rattle.flow_data.proofs.FlowBoxes.{Ascends, FlowBoxes, flow_boxes}

-- ---- sides of seams

no-margin-end : (u : ℕ) → flat_map ended (margin_edge u) ≡ []
no-margin-end u = go (u == 0)
  where
    go : (v : Bool) → flat_map ended (if v then [] else Margin u ∷ []) ≡ []
    go true = refl
    go false = refl

no-solid-end : (u : ℕ) → flat_map ended (solid_edge u) ≡ []
no-solid-end u = go (u == 0)
  where
    go : (v : Bool) → flat_map ended (if v then [] else Solid u ∷ []) ≡ []
    go true = refl
    go false = refl

no-wall-end : (p : Placed) → flat_map ended (wall_edge p) ≡ []
no-wall-end p = go (elim (p.kind) as
    (λ k. Bool) [ block_box ↦ false | anonymous ↦ false | container ↦ true | image_block ↦ false ] || p.spans || p.number == 0)
  where
    go : (v : Bool) → flat_map ended (if v then Wall ∷ [] else []) ≡ []
    go true = refl
    go false = refl

opening-ends : (p : Placed) → flat_map ended (opening p) ≡ []
opening-ends p =
    flat_map-append ended (margin_edge p.margin.top) (Start p.number ∷ (solid_edge p.top ++ wall_edge p))
    ∙ ap (λ (ns : List ℕ). ns ++ flat_map ended (solid_edge p.top ++ wall_edge p)) (no-margin-end p.margin.top)
    ∙ flat_map-append ended (solid_edge p.top) (wall_edge p) ∙ ap (λ (ns : List ℕ). ns ++ flat_map ended (wall_edge p))
    (no-solid-end p.top) ∙ no-wall-end p

pub heads-end-none : (ps : List Placed) → flat_map ended (flat_map opening ps) ≡ []
heads-end-none [] = refl
heads-end-none (p ∷ ps) = flat_map-append ended (opening p) (flat_map opening ps)
    ∙ ap (λ (ns : List ℕ). ns ++ flat_map ended (flat_map opening ps)) (opening-ends p) ∙ heads-end-none ps

pub record HasSides (s : Seam) : Type 0 where
  pub tail : flat_map started s.tail ≡ []
  pub head : flat_map ended s.head ≡ []

seam-sides : (at : List Placed) (c : Content) → HasSides (seam_behind at c)
seam-sides at c = record { tail = tails-start-none (closed_first c); head = heads-end-none (opened_then c) }

sides : (at : List Placed) (c : Content) → AllByRecursion HasSides (seams_behind at c)
sides at done = tt
sides at (opens p next) = sides (p ∷ at) next
sides at (closes p next) = sides _ next
sides at (leaf l next) = (seam-sides at next, sides at next)
sides at (holds h inside next) = (seam-sides at next, sides at next)
sides at (spanner inside next) = sides at next

-- ---- counts

pub seam-count : (n : Begun) (at : List Placed) (c : Content) → length (seams_behind at c) ≡ length (items_from n c)
seam-count n at done = refl
seam-count n at (opens p next) = seam-count n (p ∷ at) next
seam-count n at (closes p next) = seam-count n _ next
seam-count n at (leaf l next) = ap (λ (k : ℕ). suc k) (seam-count n at next)
seam-count n at (holds h inside next) = ap (λ (k : ℕ). suc k) (seam-count (past (begun_in n h) inside) at next)
seam-count n at (spanner inside next) = seam-count n at next

-- ---- order of what is open

ascends_push : (low mid high : ℕ) (ns : List ℕ) (n : ℕ) → Ascends low mid ns → mid ≤ n → n < high
    → Ascends low high (ns ++ n ∷ [])
ascends_push low mid high [] n h le lt = (omega arith, omega arith)
ascends_push low mid high (m ∷ ns) n h le lt = (h.0, ascends_push (suc m) mid high ns n h.1 le lt)

-- falling from the innermost out is ascending from the outermost in
ascending : (high : ℕ) (ps : List Placed) → Falls high ps → Ascends 0 high (numbers (reverse ps))
ascending high [] h = omega arith
ascending high (p ∷ ps) h =
    let front : reverse (p ∷ ps) ≡ reverse ps ++ p ∷ [] = reverse-append (p ∷ []) ps in
    let whole : numbers (reverse (p ∷ ps)) ≡ numbers (reverse ps) ++ p.number ∷ [] =
    ap (λ (qs : List Placed). numbers qs) front ∙ map-append (λ (q : Placed). q.number) (reverse ps) (p ∷ []) in
    subst (λ (ns : List ℕ). Ascends 0 high ns) (sym whole) (ascends_push 0 p.number high (numbers (reverse ps)) p.number
    (ascending p.number ps h.1) (omega arith) h.0)

-- ---- flows

pub record IsGood (top : ℕ) (f : Flow) : Type 0 where
  pub seam_count : length f.seams ≡ length f.items + 1
  pub seams : AllByRecursion HasSides f.seams
  pub boxes : FlowBoxes top f
  pub nested : AreNested (reverse f.opened) (edges_of f)

pub good_flow : (opened to : List Placed) (n : Begun) (c : Content) (low high : ℕ) → Goes false true (reverse opened) to c
    → Falls low (reverse opened) → Rises low high c → IsGood high (flow_with opened n c)
good_flow opened to n c low high g f r =
    let count = seam-count n (reverse opened) c in
    let some = item-follows (reverse opened) to c g in
    record {
      seam_count = omega arith;
      seams = (record { tail = refl; head = heads-end-none (opened_then c) }, sides (reverse opened) c);
      boxes = flow_boxes (numbers opened) (items_from n c) (first_seam c) (seams_behind (reverse opened) c) low high (omega arith)
          (omega arith) refl
          (subst (λ (ps : List Placed). Ascends 0 low (numbers ps)) (reverse-reverse opened) (ascending low (reverse opened) f))
          (flow_ordered low high (reverse opened) to c g f r);
      nested = flow_nested opened to n c g;
    }

more_boxes : (high top : ℕ) (f : Flow) → high ≤ top → IsGood high f → IsGood top f
more_boxes high top f le h = record {
  seam_count = h.seam_count;
  seams = h.seams;
  boxes = record {
    boxes = λ i e lt. (let b = h.boxes.boxes i e lt in omega arith);
    distinct = h.boxes.distinct;
    filled =
        h.boxes.filled;
  };
  nested = h.nested;
}

pub good_flows : (n : Begun) (fresh : Bool) (from to : List Placed) (c : Content) (low high top : ℕ) → Goes false fresh from to c
    → Rises low high c → high ≤ top → AllByRecursion (IsGood top) (flows_from n c)
good_flows n fresh from to done low high top g r le = tt
good_flows n fresh from to (opens p next) low high top g r le = good_flows n true (p ∷ from) to next (suc low) high top g r.1 le
good_flows n fresh from to (closes p next) low high top g r le = good_flows n false g.1 to next low high top g.3 r le
good_flows n fresh from to (leaf l next) low high top g r le = good_flows n false from to next low high top g r le
good_flows n fresh from to (holds h inside next) low high top g r le =
    let m = begun_in n h in
    let up = rises_up r.0 high next r.3 in
    join_all (IsGood top) (flow_with (opened_in h) m inside ∷ flows_from m inside) (flows_from (past m inside) next) (
      more_boxes r.0 top (flow_with (opened_in h) m inside) (omega arith)
          (good_flow (opened_in h) g.0.0 m inside low r.0 g.0.1 r.1 r.2),
      good_flows m true (reverse (opened_in h)) g.0.0 inside low r.0 top g.0.1 r.2 (omega arith),
    )
    (good_flows (past m inside) false from to next r.0 high top g.1 r.3 le)
good_flows n fresh from to (spanner inside next) low high top g r le = absurd (let no = g.0 in cc)
