-- The seams of a document are sound where its data has the boxes that its content names.
use Rattle.std.proofs.Common.{◌≡◌, ℕ, ◌<◌, List, [], ◌∷◌, ◌++◌, Bool, true, false, Option, Some, None, refl, sym, subst, arith}
use Rattle.std.proofs.Common.{append_assoc, ◌⊎◌, inl, inr}
use Rattle.std.specs.Prelude.{slice_get, flat_map, if◌then◌else◌, ◌==◌, ◌||◌, drop}
use Rattle.std.specs.List.{AllByRecursion}
use Rattle.flow_data.specs.declared.data.BoxInfo.{BoxInfo}
use Rattle.flow_data.specs.declared.data.Edge.{Edge}
use Rattle.flow_data.specs.declared.data.Edge.TheVariants.{Margin, Solid, Wall, Start, End}
use Rattle.flow_data.specs.declared.data.FlowsData.{FlowsData}
use Rattle.flow_data.specs.Flows.{box_of}
use Rattle.flow_data.specs.Soundness.{IsSoundSeam}
use Rattle.box_data.specs.declared.tree.BoxKind.TheVariants.{Block as block_box, Anonymous as anonymous, Container as container}
use Rattle.box_data.specs.declared.tree.BoxKind.TheVariants.{ImageBlock as image_block}
use Rattle.box_data.specs.declared.placed.Placed.{Placed}
use Rattle.box_data.specs.Content.{Content, done, opens, closes, leaf, holds, spanner}
use Rattle.box_data.specs.DocumentFlows.{margin_edge, solid_edge, wall_edge, opening, closing, closed_first, opened_then}
use Rattle.box_data.specs.DocumentFlows.{seam_behind, seams_behind, first_seam, box_info}
use Rattle.flow_data.proofs.SeamEdges.{TopsFollow, BottomsPrecede, Precedes, seam_from}
use Rattle.doc_laws.proofs.Ordered.{tails-start-none}
use Rattle.doc_laws.proofs.GoodFlows.{heads-end-none}
use Rattle.doc_laws.proofs.Everywhere.{Everywhere}

-- the data has this box
abbrev pub Knows : FlowsData → Placed → Type 0
Knows d p = box_of d p.number ≡ box_info p

-- ---- heads

margin_tops : (d : FlowsData) (u : ℕ) (edges : List Edge) → TopsFollow d edges → TopsFollow d (margin_edge u ++ edges)
margin_tops d u edges h = go (u == 0)
  where
    go : (v : Bool) → TopsFollow d ((if v then [] else Margin u ∷ []) ++ edges)
    go true = h
    go false = (tt, h)

solid_tops : (d : FlowsData) (u : ℕ) (edges : List Edge) → TopsFollow d edges → TopsFollow d (solid_edge u ++ edges)
solid_tops d u edges h = go (u == 0)
  where
    go : (v : Bool) → TopsFollow d ((if v then [] else Solid u ∷ []) ++ edges)
    go true = h
    go false = (tt, h)

wall_tops : (d : FlowsData) (p : Placed) (edges : List Edge) → TopsFollow d edges → TopsFollow d (wall_edge p ++ edges)
wall_tops d p edges h = go
    (elim (p.kind) as (λ k. Bool) [ block_box ↦ false | anonymous ↦ false | container ↦ true | image_block ↦ false ] || p.spans
    || p.number == 0)
  where
    go : (v : Bool) → TopsFollow d ((if v then Wall ∷ [] else []) ++ edges)
    go true = (tt, h)
    go false = h

-- a cloned amount above 0 is the box's own
first_solid : (clone : Bool) (u : ℕ) (edges : List Edge) → 0 < (if clone then u else 0)
    → slice_get (solid_edge u ++ edges) 0 ≡ Some (Solid (if clone then u else 0))
first_solid false u edges lt = absurd (omega arith)
first_solid true u edges lt = go (u == 0) refl
  where
    go : (v : Bool) → (u == 0) ≡ v → slice_get ((if v then [] else Solid u ∷ []) ++ edges) 0 ≡ Some (Solid u)
    go true e = absurd (grind arith)
    go false e = refl

opening_tops : (d : FlowsData) (p : Placed) (edges : List Edge) → Knows d p → TopsFollow d edges
    → TopsFollow d (opening p ++ edges)
opening_tops d p edges knows h =
    rw (append_assoc (margin_edge p.margin.top) (Start p.number ∷ (solid_edge p.top ++ wall_edge p)) edges)
    (margin_tops d p.margin.top (Start p.number ∷ ((solid_edge p.top ++ wall_edge p) ++ edges))
    (rw (append_assoc (solid_edge p.top) (wall_edge p) edges) (
      subst (λ (b : BoxInfo). 0 < b.top → slice_get (solid_edge p.top ++ (wall_edge p ++ edges)) 0 ≡ Some (Solid b.top))
          (sym knows) (first_solid p.style.cloned p.top (wall_edge p ++ edges)),
      solid_tops d p.top (wall_edge p ++ edges) (wall_tops d p edges h),
    )))

-- ---- tails

margin_bottoms : (d : FlowsData) (before : Option ℕ) (u : ℕ) (edges : List Edge) → ((b : Option ℕ) → BottomsPrecede d b edges)
    → BottomsPrecede d before (margin_edge u ++ edges)
margin_bottoms d before u edges h = go (u == 0)
  where
    go : (v : Bool) → BottomsPrecede d before ((if v then [] else Margin u ∷ []) ++ edges)
    go true = h before
    go false = (tt, h None)

wall_bottoms : (d : FlowsData) (before : Option ℕ) (p : Placed) (edges : List Edge) → ((b : Option ℕ) → BottomsPrecede d b edges)
    → BottomsPrecede d before (wall_edge p ++ edges)
wall_bottoms d before p edges h =
    go (elim (p.kind) as (λ k. Bool) [ block_box ↦ false | anonymous ↦ false | container ↦ true | image_block ↦ false ] || p.spans
    || p.number == 0)
  where
    go : (v : Bool) → BottomsPrecede d before ((if v then Wall ∷ [] else []) ++ edges)
    go true = (tt, h None)
    go false = h before

end_bottoms : (d : FlowsData) (before : Option ℕ) (p : Placed) (edges : List Edge) → Knows d p
    → ((b : Option ℕ) → BottomsPrecede d b edges) → BottomsPrecede d before (solid_edge p.bottom ++ (End p.number ∷ edges))
end_bottoms d before p edges knows h = go (p.bottom == 0) refl
  where
    last : (clone : Bool) (u : ℕ) (b : Option ℕ) → ((u == 0) ≡ true) ⊎ (b ≡ Some u) → 0 < (if clone then u else 0)
        → b ≡ Some (if clone then u else 0)
    last false u b e lt = absurd (omega arith)
    last true u b (inl e) lt = absurd (grind arith)
    last true u b (inr e) lt = e

    closes_box : (b : Option ℕ) → ((p.bottom == 0) ≡ true) ⊎ (b ≡ Some p.bottom) → Precedes d b (End p.number)
    closes_box b e = subst (λ (i : BoxInfo). 0 < i.bottom → b ≡ Some i.bottom) (sym knows) (last p.style.cloned p.bottom b e)

    go : (v : Bool) → (p.bottom == 0) ≡ v → BottomsPrecede d before ((if v then [] else Solid p.bottom ∷ [])
        ++ (End p.number ∷ edges))
    go true e = (closes_box before (inl e), h None)
    go false e = (tt, (closes_box (Some p.bottom) (inr refl), h None))

closing_bottoms : (d : FlowsData) (before : Option ℕ) (p : Placed) (edges : List Edge) → Knows d p
    → ((b : Option ℕ) → BottomsPrecede d b edges) → BottomsPrecede d before (closing p ++ edges)
closing_bottoms d before p edges knows h =
    rw (append_assoc (wall_edge p) (solid_edge p.bottom ++ (End p.number ∷ margin_edge p.margin.bottom)) edges)
    (wall_bottoms d before p ((solid_edge p.bottom ++ (End p.number ∷ margin_edge p.margin.bottom)) ++ edges)
    (λ b. rw (append_assoc (solid_edge p.bottom) (End p.number ∷ margin_edge p.margin.bottom) edges)
    (end_bottoms d b p (margin_edge p.margin.bottom ++ edges) knows (λ c. margin_bottoms d c p.margin.bottom edges h))))

-- ---- seams

heads : (d : FlowsData) (c : Content) → Everywhere (Knows d) c → TopsFollow d (flat_map opening (opened_then c))
heads d done h = tt
heads d (opens p next) h = opening_tops d p (flat_map opening (opened_then next)) h.0 (heads d next h.1)
heads d (closes p next) h = heads d next h.1
heads d (leaf l next) h = tt
heads d (holds i inside next) h = tt
heads d (spanner inside next) h = tt

tails : (d : FlowsData) (before : Option ℕ) (c : Content) → Everywhere (Knows d) c
    → BottomsPrecede d before (flat_map closing (closed_first c))
tails d before done h = tt
tails d before (opens p next) h = tt
tails d before (closes p next) h = closing_bottoms d before p (flat_map closing (closed_first next)) h.0 (λ b. tails d b next h.1)
tails d before (leaf l next) h = tt
tails d before (holds i inside next) h = tt
tails d before (spanner inside next) h = tt

pub sound_seam : (d : FlowsData) (at : List Placed) (c : Content) → Everywhere (Knows d) c → IsSoundSeam d (seam_behind at c)
sound_seam d at c h = seam_from d (seam_behind at c) (record {
  no_start = tails-start-none (closed_first c);
  cloned =
      tails d None c h;
}) (record { no_end = heads-end-none (opened_then c); cloned = heads d c h })

pub sound_seams : (d : FlowsData) (at : List Placed) (c : Content) → Everywhere (Knows d) c
    → AllByRecursion (IsSoundSeam d) (seams_behind at c)
sound_seams d at done h = tt
sound_seams d at (opens p next) h = sound_seams d (p ∷ at) next h.1
sound_seams d at (closes p next) h = sound_seams d (drop 1 at) next h.1
sound_seams d at (leaf l next) h = (sound_seam d at next h.1, sound_seams d at next h.1)
sound_seams d at (holds i inside next) h = (sound_seam d at next h.2, sound_seams d at next h.2)
sound_seams d at (spanner inside next) h = sound_seams d at next h.1

pub sound_first : (d : FlowsData) (c : Content) → Everywhere (Knows d) c → IsSoundSeam d (first_seam c)
sound_first d c h = seam_from d (first_seam c) (record { no_start = refl; cloned = tt })
    (record { no_end = heads-end-none (opened_then c); cloned = heads d c h })
