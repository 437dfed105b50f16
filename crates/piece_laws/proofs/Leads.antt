-- Crossings one after another, and the boxes that are open after them: a box that is gone into becomes the innermost one, and
-- only the innermost one is gone out of.
use Rattle.std.proofs.Common.{◌≡◌, ℕ, ◌+◌, List, [], ◌∷◌, ◌++◌, map, refl, sym, subst, ◌∙◌, ap, arith, append_assoc, reverse}
use Rattle.std.specs.List.{flat_map}
use Rattle.std.proofs.lemmas.List.{append-nil, reverse-append}
use Rattle.flow_list.specs.Data.{Edge, Margin, Solid, Wall, Start, End}
use Rattle.flow_data.specs.Flows.{started, ended}
use Rattle.flow_data.specs.Soundness.{AreNested, count_of}
use Rattle.flow_data.proofs.Counts.{count-cons}
use Rattle.piece_laws.specs.Nesting.{Crossing, into, out_of, continued_into, crossings}

-- from these open boxes, the innermost first, these crossings lead to those
abbrev pub Leads : List ℕ → List Crossing → List ℕ → Type 0
Leads boxes [] after = boxes ≡ after
Leads boxes (into b starts ∷ cs) after = Leads (b ∷ boxes) cs after
Leads [] (out_of b ends ∷ cs) after = ⊥
Leads (innermost ∷ boxes) (out_of b ends ∷ cs) after = (innermost ≡ b) × Leads boxes cs after

pub leads-on : (cs more : List Crossing) (boxes mid after : List ℕ) → Leads boxes cs mid → Leads mid more after →
    Leads boxes (cs ++ more) after
leads-on [] more boxes mid after e h = let P : List ℕ → Type 0 = λ bs. Leads bs more after in subst P (sym e) h
leads-on (into b starts ∷ cs) more boxes mid after e h = leads-on cs more (b ∷ boxes) mid after e h
leads-on (out_of b ends ∷ cs) more [] mid after e h = absurd e
leads-on (out_of b ends ∷ cs) more (c ∷ boxes) mid after e h = (e.0, leads-on cs more boxes mid after e.1 h)

pub leads-rest : (cs more : List Crossing) (boxes mid after : List ℕ) → Leads boxes (cs ++ more) after → Leads boxes cs mid →
    Leads mid more after
leads-rest [] more boxes mid after h e = let P : List ℕ → Type 0 = λ bs. Leads bs more after in subst P e h
leads-rest (into b starts ∷ cs) more boxes mid after h e = leads-rest cs more (b ∷ boxes) mid after h e
leads-rest (out_of b ends ∷ cs) more [] mid after h e = absurd e
leads-rest (out_of b ends ∷ cs) more (c ∷ boxes) mid after h e = leads-rest cs more boxes mid after h.1 e.1

-- into boxes that continue, the outermost first
pub into-all : (bs boxes : List ℕ) → Leads boxes (map continued_into bs) (reverse bs ++ boxes)
into-all [] boxes = refl
into-all (b ∷ bs) boxes =
    let P : List ℕ → Type 0 = λ after. Leads (b ∷ boxes) (map continued_into bs) after in
    let e : reverse bs ++ (b ∷ boxes) ≡ reverse (b ∷ bs) ++ boxes =
    sym (append_assoc (reverse bs) (b ∷ []) boxes) ∙ ap (λ us. us ++ boxes) (sym (reverse-append (b ∷ []) bs)) in
    subst P e (into-all bs (b ∷ boxes))

-- the boxes that crossings go into
abbrev pub entered : Crossing → List ℕ
entered (into b starts) = b ∷ []
entered (out_of b ends) = []

-- and those that they go out of
abbrev pub left : Crossing → List ℕ
left (into b starts) = []
left (out_of b ends) = b ∷ []

pub entered-continued : (bs : List ℕ) → flat_map entered (map continued_into bs) ≡ bs
entered-continued [] = refl
entered-continued (b ∷ bs) = ap (λ us. b ∷ us) (entered-continued bs)

pub entered-edges : (es : List Edge) → flat_map entered (crossings es) ≡ flat_map started es
entered-edges [] = refl
entered-edges (Margin m ∷ es) = entered-edges es
entered-edges (Solid a ∷ es) = entered-edges es
entered-edges (Wall ∷ es) = entered-edges es
entered-edges (Start b ∷ es) = ap (λ us. b ∷ us) (entered-edges es)
entered-edges (End b ∷ es) = entered-edges es

pub left-edges : (es : List Edge) → flat_map left (crossings es) ≡ flat_map ended es
left-edges [] = refl
left-edges (Margin m ∷ es) = left-edges es
left-edges (Solid a ∷ es) = left-edges es
left-edges (Wall ∷ es) = left-edges es
left-edges (Start b ∷ es) = left-edges es
left-edges (End b ∷ es) = ap (λ us. b ∷ us) (left-edges es)

-- the boxes that were open or are gone into then are open, or are gone out of
pub leads-counts : (m : ℕ) (cs : List Crossing) (boxes after : List ℕ) → Leads boxes cs after →
    count_of m boxes + count_of m (flat_map entered cs) ≡ count_of m after + count_of m (flat_map left cs)
leads-counts m [] boxes after e = let same = ap (count_of m) e in omega arith
leads-counts m (into b starts ∷ cs) boxes after h =
    omega (arith, leads-counts m cs (b ∷ boxes) after h, count-cons m b boxes, count-cons m b (flat_map entered cs))
leads-counts m (out_of b ends ∷ cs) [] after h = absurd h
leads-counts m (out_of b ends ∷ cs) (c ∷ boxes) after h =
    omega (
      arith,
      leads-counts m cs boxes after h.1,
      ap (λ x. count_of m (x ∷ boxes)) h.0,
      count-cons m b boxes,
      count-cons m b (flat_map left cs),
    )

-- ---- edges that are well nested

-- at a tail the boxes that end there go, and these are left
abbrev pub TailLeads : List ℕ → List Edge → List Edge → Type 0
TailLeads boxes es rest =
    (left : List ℕ) × (boxes ≡ flat_map ended es ++ left) × Leads boxes (crossings es) left × AreNested left rest

pub tail-leads : (es rest : List Edge) (boxes : List ℕ) → flat_map started es ≡ [] → AreNested boxes (es ++ rest) →
    TailLeads boxes es rest
tail-leads [] rest boxes none h = (boxes, refl, refl, h)
tail-leads (Margin m ∷ es) rest boxes none h = tail-leads es rest boxes none h
tail-leads (Solid a ∷ es) rest boxes none h = tail-leads es rest boxes none h
tail-leads (Wall ∷ es) rest boxes none h = tail-leads es rest boxes none h
tail-leads (Start b ∷ es) rest boxes none h = cc
tail-leads (End b ∷ es) rest [] none h = absurd h
tail-leads (End b ∷ es) rest (c ∷ boxes) none h =
    let r = tail-leads es rest boxes none h.1 in
    (r.0, ap (λ x. x ∷ boxes) h.0 ∙ ap (λ us. b ∷ us) r.1, (h.0, r.2), r.3)

-- at a head the boxes that start there come, and then these are open
abbrev pub HeadLeads : List ℕ → List Edge → List Edge → Type 0
HeadLeads boxes es rest =
    (stack : List ℕ) × (reverse stack ≡ reverse boxes ++ flat_map started es) × Leads boxes (crossings es) stack
    × AreNested stack rest

pub head-leads : (es rest : List Edge) (boxes : List ℕ) → flat_map ended es ≡ [] → AreNested boxes (es ++ rest) →
    HeadLeads boxes es rest
head-leads [] rest boxes none h = (boxes, sym (append-nil (reverse boxes)), refl, h)
head-leads (Margin m ∷ es) rest boxes none h = head-leads es rest boxes none h
head-leads (Solid a ∷ es) rest boxes none h = head-leads es rest boxes none h
head-leads (Wall ∷ es) rest boxes none h = head-leads es rest boxes none h
head-leads (Start b ∷ es) rest boxes none h =
    let r = head-leads es rest (b ∷ boxes) none h in (
      r.0,
      r.1 ∙ ap (λ us. us ++ flat_map started es) (reverse-append (b ∷ []) boxes)
          ∙ append_assoc (reverse boxes) (b ∷ []) (flat_map started es),
      r.2,
      r.3,
    )
head-leads (End b ∷ es) rest boxes none h = cc
