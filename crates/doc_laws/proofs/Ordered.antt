-- The seams of a document's flow start its boxes in order, each after those that end before.
use Rattle.std.proofs.Common.{◌≡◌, ℕ, suc, ◌<◌, ◌≤◌, List, [], ◌∷◌, ◌++◌, Bool, true, false, length, refl, sym, ap, ◌∙◌, subst}
use Rattle.std.proofs.Common.{arith, ◌⊎◌, inl, inr}
use Rattle.std.specs.Prelude.{flat_map, if◌then◌else◌, ◌==◌, ◌||◌}
use Rattle.std.proofs.lemmas.Grind.{flat_map-append}
use Rattle.flow_data.specs.declared.data.Edge.TheVariants.{Margin, Solid, Wall, Start, End}
use Rattle.flow_data.specs.Flows.{started, ended}
use Rattle.box_data.specs.declared.tree.BoxKind.TheVariants.{Block as block_box, Anonymous as anonymous, Container as container}
use Rattle.box_data.specs.declared.tree.BoxKind.TheVariants.{ImageBlock as image_block}
use Rattle.box_data.specs.declared.placed.Placed.{Placed}
use Rattle.box_data.specs.Content.{Content, done, opens, closes, leaf, holds, spanner}
use Rattle.box_data.specs.DocumentFlows.{margin_edge, solid_edge, wall_edge, opening, closing, closed_first, opened_then}
use Rattle.box_data.specs.DocumentFlows.{seam_behind, seams_behind, first_seam}
use Rattle.flow_data.proofs.FlowBoxes.{Below, Ascends, AreOrdered}
use Rattle.doc_laws.proofs.Goes.{Goes}
use Rattle.doc_laws.proofs.Nested.{numbers}
use Rattle.doc_laws.proofs.Rises.{Rises, Falls, rises_up, falls_below}

-- ---- the boxes of edges

no-margin : (u : ℕ) → flat_map started (margin_edge u) ≡ []
no-margin u = go (u == 0)
  where
    go : (v : Bool) → flat_map started (if v then [] else Margin u ∷ []) ≡ []
    go true = refl
    go false = refl

no-solid : (u : ℕ) → flat_map started (solid_edge u) ≡ []
no-solid u = go (u == 0)
  where
    go : (v : Bool) → flat_map started (if v then [] else Solid u ∷ []) ≡ []
    go true = refl
    go false = refl

no-wall : (p : Placed) → flat_map started (wall_edge p) ≡ []
no-wall p = go (elim (p.kind) as
    (λ k. Bool) [ block_box ↦ false | anonymous ↦ false | container ↦ true | image_block ↦ false ] || p.spans || p.number == 0)
  where
    go : (v : Bool) → flat_map started (if v then Wall ∷ [] else []) ≡ []
    go true = refl
    go false = refl

opening-starts : (p : Placed) → flat_map started (opening p) ≡ p.number ∷ []
opening-starts p =
    flat_map-append started (margin_edge p.margin.top) (Start p.number ∷ (solid_edge p.top ++ wall_edge p))
    ∙ ap (λ (ns : List ℕ). ns ++ flat_map started (Start p.number ∷ (solid_edge p.top ++ wall_edge p))) (no-margin p.margin.top)
    ∙ ap (λ (ns : List ℕ). p.number ∷ ns) (flat_map-append started (solid_edge p.top) (wall_edge p)
    ∙ ap (λ (ns : List ℕ). ns ++ flat_map started (wall_edge p)) (no-solid p.top) ∙ no-wall p)

closing-starts : (p : Placed) → flat_map started (closing p) ≡ []
closing-starts p =
    flat_map-append started (wall_edge p) (solid_edge p.bottom ++ (End p.number ∷ margin_edge p.margin.bottom))
    ∙ ap (λ (ns : List ℕ). ns ++ flat_map started (solid_edge p.bottom ++ (End p.number ∷ margin_edge p.margin.bottom)))
    (no-wall p)
    ∙ flat_map-append started (solid_edge p.bottom) (End p.number ∷ margin_edge p.margin.bottom)
    ∙ ap (λ (ns : List ℕ). ns ++ flat_map started (margin_edge p.margin.bottom)) (no-solid p.bottom)
    ∙ no-margin p.margin.bottom

pub heads-start : (ps : List Placed) → flat_map started (flat_map opening ps) ≡ numbers ps
heads-start [] = refl
heads-start (p ∷ ps) = flat_map-append started (opening p) (flat_map opening ps)
    ∙ ap (λ (ns : List ℕ). ns ++ flat_map started (flat_map opening ps)) (opening-starts p)
    ∙ ap (λ (ns : List ℕ). p.number ∷ ns) (heads-start ps)

pub tails-start-none : (ps : List Placed) → flat_map started (flat_map closing ps) ≡ []
tails-start-none [] = refl
tails-start-none (p ∷ ps) = flat_map-append started (closing p) (flat_map closing ps)
    ∙ ap (λ (ns : List ℕ). ns ++ flat_map started (flat_map closing ps)) (closing-starts p) ∙ tails-start-none ps

no-margin-end : (u : ℕ) → flat_map ended (margin_edge u) ≡ []
no-margin-end u = go (u == 0)
  where
    go : (v : Bool) → flat_map ended (if v then [] else Margin u ∷ []) ≡ []
    go true = refl
    go false = refl

no-solid-end : (u : ℕ) → flat_map ended (solid_edge u) ≡ []
no-solid-end u = go (u == 0)
  where
    go : (v : Bool) → flat_map ended (if v then [] else Solid u ∷ []) ≡ []
    go true = refl
    go false = refl

no-wall-end : (p : Placed) → flat_map ended (wall_edge p) ≡ []
no-wall-end p = go (elim (p.kind) as
    (λ k. Bool) [ block_box ↦ false | anonymous ↦ false | container ↦ true | image_block ↦ false ] || p.spans || p.number == 0)
  where
    go : (v : Bool) → flat_map ended (if v then Wall ∷ [] else []) ≡ []
    go true = refl
    go false = refl

closing-ends : (p : Placed) → flat_map ended (closing p) ≡ p.number ∷ []
closing-ends p =
    flat_map-append ended (wall_edge p) (solid_edge p.bottom ++ (End p.number ∷ margin_edge p.margin.bottom))
    ∙ ap (λ (ns : List ℕ). ns ++ flat_map ended (solid_edge p.bottom ++ (End p.number ∷ margin_edge p.margin.bottom)))
    (no-wall-end p)
    ∙ flat_map-append ended (solid_edge p.bottom) (End p.number ∷ margin_edge p.margin.bottom)
    ∙ ap (λ (ns : List ℕ). ns ++ (p.number ∷ flat_map ended (margin_edge p.margin.bottom))) (no-solid-end p.bottom)
    ∙ ap (λ (ns : List ℕ). p.number ∷ ns) (no-margin-end p.margin.bottom)

pub tails-end : (ps : List Placed) → flat_map ended (flat_map closing ps) ≡ numbers ps
tails-end [] = refl
tails-end (p ∷ ps) = flat_map-append ended (closing p) (flat_map closing ps)
    ∙ ap (λ (ns : List ℕ). ns ++ flat_map ended (flat_map closing ps)) (closing-ends p)
    ∙ ap (λ (ns : List ℕ). p.number ∷ ns) (tails-end ps)

-- ---- order

-- what is open falls from below low on, so what closes of it is below low
closes-below : (low : ℕ) (fresh : Bool) (from to : List Placed) (c : Content) → Goes false fresh from to c → Falls low from
    → Below low (numbers (closed_first c))
closes-below low fresh from to done h f = tt
closes-below low fresh from to (opens p next) h f = tt
closes-below low fresh from to (closes p next) h f =
    let g = subst (λ (o : List Placed). Falls low o) h.2 f in
    let lt = g.0 in
    (lt, closes-below low false h.1 to next h.3 (falls_below p.number low h.1 (omega arith) g.1))
closes-below low fresh from to (leaf l next) h f = tt
closes-below low fresh from to (holds i inside next) h f = tt
closes-below low fresh from to (spanner inside next) h f = absurd (let no = h.0 in cc)

-- after a start an item follows
pub item-follows : (from to : List Placed) (c : Content) → Goes false true from to c → 0 < length (seams_behind from c)
item-follows from to done h = absurd (let no = h.0 in cc)
item-follows from to (opens p next) h = item-follows (p ∷ from) to next h
item-follows from to (closes p next) h = absurd (let no = h.0 in cc)
item-follows from to (leaf l next) h = omega arith
item-follows from to (holds i inside next) h = omega arith
item-follows from to (spanner inside next) h = absurd (let no = h.0 in cc)

pub record Ahead (low high : ℕ) (from : List Placed) (c : Content) : Type 0 where
  pub next : ℕ
  pub ends : Below low (numbers (closed_first c))
  pub starts : Ascends low next (numbers (opened_then c))
  pub item : (numbers (opened_then c) ≡ []) ⊎ (0 < length (seams_behind from c))
  pub later : AreOrdered next high (seams_behind from c)

-- the seam after an item, and those after it
seam-ordered : (low mid high : ℕ) (from : List Placed) (c : Content) → low ≤ mid → Ahead mid high from c
    → AreOrdered low high (seam_behind from c ∷ seams_behind from c)
seam-ordered low mid high from c le a = (
  mid,
  a.next,
  record {
    from = le;
    ends = subst (λ (ns : List ℕ). Below mid ns) (sym (tails-end (closed_first c))) a.ends;
    starts = subst (λ (ns : List ℕ). Ascends mid a.next ns) (sym (heads-start (opened_then c))) a.starts;
    item = subst (λ (ns : List ℕ). (ns ≡ []) ⊎ (0 < length (seams_behind from c))) (sym (heads-start (opened_then c))) a.item;
  },
  a.later,
)

pub ahead : (low high : ℕ) (fresh : Bool) (from to : List Placed) (c : Content) → Goes false fresh from to c → Falls low from
    → Rises low high c → Ahead low high from c
ahead low high fresh from to done g f r = record {
  next = low;
  ends = tt;
  starts = omega arith;
  item = inl refl;
  later =
      omega arith;
}
ahead low high fresh from to (opens p next) g f r =
    let e = r.0 in
    let a = ahead (suc low) high true (p ∷ from) to next g (omega arith, falls_below low p.number from (omega arith) f) r.1 in
    record {
      next = a.next;
      ends = tt;
      starts = (omega arith, subst (λ (n : ℕ). Ascends (suc n) a.next (numbers (opened_then next))) (sym e) a.starts);
      item = inr (item-follows (p ∷ from) to next g);
      later = a.later;
    }
ahead low high fresh from to (closes p next) g f r =
    let fall = subst (λ (o : List Placed). Falls low o) g.2 f in
    let lt = fall.0 in
    let a = ahead low high false g.1 to next g.3 (falls_below p.number low g.1 (omega arith) fall.1) r in
    subst (λ (o : List Placed). Ahead low high o (closes p next)) (sym g.2)
    (record { next = a.next; ends = (lt, a.ends); starts = a.starts; item = a.item; later = a.later })
ahead low high fresh from to (leaf l next) g f r =
    record {
      next = low;
      ends = tt;
      starts = omega arith;
      item = inl refl;
      later =
          seam-ordered low low high from next (omega arith) (ahead low high false from to next g f r);
    }
ahead low high fresh from to (holds i inside next) g f r =
    let le = rises_up low r.0 inside r.2 in
    record {
      next = low;
      ends = tt;
      starts = omega arith;
      item = inl refl;
      later =
          seam-ordered low r.0 high from next le (ahead r.0 high false from to next g.1 (falls_below low r.0 from le f) r.3);
    }
ahead low high fresh from to (spanner inside next) g f r = absurd (let no = g.0 in cc)

-- the seams of a flow, after whose opened boxes those from low on start
pub flow_ordered : (low high : ℕ) (from to : List Placed) (c : Content) → Goes false true from to c → Falls low from
    → Rises low high c → AreOrdered low high (first_seam c ∷ seams_behind from c)
flow_ordered low high from to c g f r =
    let a = ahead low high true from to c g f r in (
      low,
      a.next,
      record {
        from = omega arith;
        ends = tt;
        starts = subst (λ (ns : List ℕ). Ascends low a.next ns) (sym (heads-start (opened_then c))) a.starts;
        item = subst (λ (ns : List ℕ). (ns ≡ []) ⊎ (0 < length (seams_behind from c))) (sym (heads-start (opened_then c))) a.item;
      },
      a.later,
    )
