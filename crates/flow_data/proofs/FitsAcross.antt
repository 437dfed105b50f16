-- A walk over places that are left to look at, in place of the recursion over flows in flows.
use Rattle.std.proofs.Common.{◌≡◌, ℕ, zero, suc, ◌+◌, ◌-◌, ◌<◌, List, [], ◌∷◌, ◌++◌, All, ◌↔◌, length, map, sum_by, flat_map}
use Rattle.std.proofs.Common.{refl, sym, ap, subst, ◌∙◌, arith}
use Rattle.std.specs.Prelude.{◌≢◌}
use Rattle.std.proofs.lemmas.List.Elements.{All-append, All-nil, All-cons, All-head, All-tail, All-map}
use Rattle.std.proofs.lemmas.List.Sums.{sum_by-append, sum_by-cons}
use Rattle.flow_data.specs.declared.across.Place.{Place}
use Rattle.flow_data.specs.Data.{FlowsData, Item}
use Rattle.flow_data.specs.Across.{IsBoxInReach, IsItemInReach, place_of}
use Rattle.flow_data.specs.Flows.{flow_of, stack_of, boxes_in}
use Rattle.flow_data.specs.Soundness.{FitsAcross, Held, held_in}
use Rattle.flow_data.proofs.Everywhere.{all-left, all-right}

-- how many places are looked at from a flow on, n flows deep
abbrev pub visits : FlowsData → ℕ → ℕ → ℕ
visits d zero f = 1
visits d (suc n) f = 1 + sum_by (λ (h : Held). visits d n h.flow) (flat_map (held_in d) (flow_of d f).items)

abbrev pub visits_at : FlowsData → Place → ℕ
visits_at d p = visits d p.depth p.flow

abbrev pub FitsAt : FlowsData → Place → Type 0
FitsAt d p = FitsAcross d p.depth p.left p.flow

-- ---- one place

-- the boxes and the items of a flow are below 2^60 from the left of stack 0
abbrev pub Reaches : FlowsData → ℕ → ℕ → Type 0
Reaches d left f = All (IsBoxInReach d left) (boxes_in (flow_of d f)) × All (IsItemInReach d left) (flow_of d f).items

abbrev pub HeldFit : FlowsData → ℕ → ℕ → List Item → Type 0
HeldFit d n left items = All (λ (h : Held). FitsAcross d n (left + h.x) h.flow) (flat_map (held_in d) items)

pub reaches-from_fits : (d : FlowsData) (p : Place) → p.depth ≢ 0 → FitsAt d p → Reaches d p.left p.flow
reaches-from_fits d p some h = go p.depth some h
  where
    go : (n : ℕ) → n ≢ 0 → FitsAcross d n p.left p.flow → Reaches d p.left p.flow
    go zero some h = absurd (some refl)
    go (suc n) some h = (h.0, h.1)

held-from_fits : (d : FlowsData) (n left f : ℕ) → n ≢ 0 → FitsAcross d n left f → HeldFit d (n - 1) left (flow_of d f).items
held-from_fits d zero left f some h = absurd (some refl)
held-from_fits d (suc n) left f some h = let e : n ≡ suc n - 1 = omega arith
    in subst (λ (m : ℕ). HeldFit d m left (flow_of d f).items) e h.2

fits-from_held : (d : FlowsData) (n left f : ℕ) → n ≢ 0 → Reaches d left f → HeldFit d (n - 1) left (flow_of d f).items
    → FitsAcross d n left f
fits-from_held d zero left f some here h = absurd (some refl)
fits-from_held d (suc n) left f some here h = let e : suc n - 1 ≡ n = omega arith
    in (here.0, here.1, subst (λ (m : ℕ). HeldFit d m left (flow_of d f).items) e h)

visits-step : (d : FlowsData) (n f : ℕ) → n ≢ 0
    → visits d n f ≡ 1 + sum_by (λ (h : Held). visits d (n - 1) h.flow) (flat_map (held_in d) (flow_of d f).items)
visits-step d zero f some = absurd (some refl)
visits-step d (suc n) f some = let e : n ≡ suc n - 1 = omega arith
    in ap (λ (m : ℕ). 1 + sum_by (λ (h : Held). visits d m h.flow) (flat_map (held_in d) (flow_of d f).items)) e

-- ---- places of held flows

held-from_places : (d : FlowsData) (left n : ℕ) (hs : List Held) → All (FitsAt d) (map (place_of left n) hs)
    → All (λ (h : Held). FitsAcross d n (left + h.x) h.flow) hs
held-from_places d left n [] all = All-nil (λ (h : Held). FitsAcross d n (left + h.x) h.flow)
held-from_places d left n (h ∷ hs) all =
    All-cons (λ (h : Held). FitsAcross d n (left + h.x) h.flow) h hs
    (All-head (FitsAt d) (place_of left n h) (map (place_of left n) hs) all)
    (held-from_places d left n hs (All-tail (FitsAt d) (place_of left n h) (map (place_of left n) hs) all))

visits-places : (d : FlowsData) (left n : ℕ) (hs : List Held)
    → sum_by (visits_at d) (map (place_of left n) hs) ≡ sum_by (λ (h : Held). visits d n h.flow) hs
visits-places d left n [] = refl
visits-places d left n (h ∷ hs) =
    sum_by-cons (visits_at d) (place_of left n h) (map (place_of left n) hs)
    ∙ ap (λ m. visits d n h.flow + m) (visits-places d left n hs) ∙ sym (sum_by-cons (λ (h : Held). visits d n h.flow) h hs)

-- ---- the walk

pub places_start : (d : FlowsData) (places : List Place) (f n : ℕ) → places ≡ record { flow = f; left = 0; depth = n } ∷ []
    → f ≡ (stack_of d 0).flow → n ≡ length d.flows
    → All (FitsAt d) places ↔ FitsAcross d (length d.flows) 0 (stack_of d 0).flow
places_start d places f n is flow deep =
    let first : Place = record { flow = f; left = 0; depth = n } in (
      λ h. subst (λ (m : ℕ). FitsAcross d m 0 (stack_of d 0).flow) deep
          (subst (λ (g : ℕ). FitsAcross d n 0 g) flow (All-head (FitsAt d) first [] (subst (All (FitsAt d)) is h))),
      λ h. subst (All (FitsAt d)) (sym is)
          (All-cons (FitsAt d) first []
          (subst (λ (g : ℕ). FitsAcross d n 0 g) (sym flow)
          (subst (λ (m : ℕ). FitsAcross d m 0 (stack_of d 0).flow) (sym deep) h)) (All-nil (FitsAt d))),
    )

pub place_fits : (d : FlowsData) (rest old : List Place) (p : Place) → old ≡ rest ++ p ∷ [] → All (FitsAt d) old → FitsAt d p
place_fits d rest old p is h = All-head (FitsAt d) p [] (all-right (FitsAt d) rest (p ∷ []) (subst (All (FitsAt d)) is h))

pub places_step : (d : FlowsData) (Whole : Type 0) (rest old new : List Place) (p : Place) (items : List Item)
    → old ≡ rest ++ p ∷ [] → p.depth ≢ 0 → items ≡ (flow_of d p.flow).items
    → new ≡ rest ++ map (place_of p.left (p.depth - 1)) (flat_map (held_in d) items) → Reaches d p.left p.flow
    → All (FitsAt d) old ↔ Whole → All (FitsAt d) new ↔ Whole
places_step d Whole rest old new p items was some its is here same =
    let held = flat_map (held_in d) items in
    let added = map (place_of p.left (p.depth - 1)) held in
    let Each : List Item → Type 0 = HeldFit d (p.depth - 1) p.left in (
      λ h.
          let all = subst (All (FitsAt d)) is h in
          let back = held-from_places d p.left (p.depth - 1) held (all-right (FitsAt d) rest added all) in
          let now : FitsAt d p = fits-from_held d p.depth p.left p.flow some here (subst Each its back) in
          same.0 (subst (All (FitsAt d)) (sym was)
          (All-append (FitsAt d) rest (p ∷ []) (all-left (FitsAt d) rest added all)
          (All-cons (FitsAt d) p [] now (All-nil (FitsAt d))))),
      λ w.
          let all = same.1 w in
          let now = place_fits d rest old p was all in
          let each = subst Each (sym its) (held-from_fits d p.depth p.left p.flow some now) in
          subst (All (FitsAt d)) (sym is)
          (All-append (FitsAt d) rest added (all-left (FitsAt d) rest (p ∷ []) (subst (All (FitsAt d)) was all))
          (All-map (FitsAt d) (place_of p.left (p.depth - 1)) held each)),
    )

pub places_fewer : (d : FlowsData) (rest old new : List Place) (p : Place) (items : List Item) → old ≡ rest ++ p ∷ []
    → p.depth ≢ 0 → items ≡ (flow_of d p.flow).items
    → new ≡ rest ++ map (place_of p.left (p.depth - 1)) (flat_map (held_in d) items)
    → sum_by (visits_at d) new < sum_by (visits_at d) old
places_fewer d rest old new p items was some its is =
    let total : List Place → ℕ = sum_by (visits_at d) in
    let held = flat_map (held_in d) items in
    let added = map (place_of p.left (p.depth - 1)) held in
    let before : total old ≡ total rest + visits d p.depth p.flow = ap total was ∙ sum_by-append (visits_at d) rest (p ∷ [])
    ∙ ap (λ n. total rest + n) (sum_by-cons (visits_at d) p [] ∙ omega arith) in
    let after : total new ≡ total rest + total added = ap total is ∙ sum_by-append (visits_at d) rest added in
    let each = visits-places d p.left (p.depth - 1) held in
    let step = visits-step d p.depth p.flow some in
    let same = ap (λ (items : List Item). sum_by (λ (h : Held). visits d (p.depth - 1) h.flow) (flat_map (held_in d) items))
    its in
    omega arith
