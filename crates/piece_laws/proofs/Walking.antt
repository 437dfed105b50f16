-- The walk of a column's tree crosses what is placed there, and what is laid, in order; last it goes out of what stays open.
use Rattle.std.proofs.Common.{◌≡◌, ℕ, zero, suc, ◌+◌, ◌<◌, ◌≤◌, ◌==◌, Bool, true, false, cond, List, [], ◌∷◌, ◌++◌, length, map}
use Rattle.std.proofs.Common.{refl, sym, subst, ◌∙◌, ap, arith, append_assoc, reverse, ◌⊎◌, inl, inr}
use Rattle.std.specs.Prelude.{is_some}
use Rattle.std.proofs.lemmas.Bool.{cond_both}
use Rattle.std.proofs.lemmas.Bool.Decides.{nat_tests}
use Rattle.std.proofs.lemmas.List.{append-nil, map_push}
use Rattle.std.proofs.lemmas.List.Concat.{flat_map-append}
use Rattle.std.specs.List.{flat_map}
use Rattle.mc_base.specs.PlainTree.{PlainTree, plain_trees}
use Rattle.flow_list.specs.Data.{FlowsData}
use Rattle.flow_data.specs.Flows.{box_of}
use Rattle.flow_data.specs.Soundness.{count_of}
use Rattle.flow_data.proofs.Counts.{count-append, count-cons, count-self, count-yes}
use Rattle.flow_list.specs.ClonedEdges.{tops}
use Rattle.flow_list.specs.Placing.{RowLaid, Laid, margin, solid, wall, opens, closes, atom, row, ends_gap, gap_of, behind_gap}
use Rattle.flow_list.specs.Placing.{gap_height, Placed, opens_at, closes_at, atom_at, row_at, placed_in_gap, gap_places}
use Rattle.flow_list.specs.Placing.{placed_item, laid_height, places_from}
use Rattle.flow_list.specs.Fragments.{closes_here, inside_box, behind_box, bottom_of, trees_of, all_trees, continued_from}
use Rattle.flow_laws.proofs.HoldingTrees.{behind-box-length, behind-length, inside-length}
use Rattle.piece_laws.specs.Nesting.{continued_into, continued_out, Crossing, into, out_of, walk_of_tree, walk_of_trees}
use Rattle.piece_laws.proofs.Leads.{entered, entered-continued, into-all, Leads, leads-on}

abbrev pub of_placed : Placed → List Crossing
of_placed (opens_at b y starts) = into b starts ∷ []
of_placed (closes_at b y) = out_of b true ∷ []
of_placed (atom_at k y) = []
of_placed (row_at r y) = []

abbrev pub of_laid : Laid → List Crossing
of_laid (margin m) = []
of_laid (solid a) = []
of_laid wall = []
of_laid (opens b) = into b true ∷ []
of_laid (closes b) = out_of b true ∷ []
of_laid (atom k height) = []
of_laid (row r) = []

-- ---- from what is laid to what is placed

in-gap : (y end : ℕ) (before : List Laid) (x : Laid) → flat_map of_placed (placed_in_gap y end before x) ≡ of_laid x
in-gap y end before (margin m) = refl
in-gap y end before (solid a) = refl
in-gap y end before wall = refl
in-gap y end before (opens b) = refl
in-gap y end before (closes b) = refl
in-gap y end before (atom k height) = refl
in-gap y end before (row r) = refl

in-gaps : (y end : ℕ) (before gap : List Laid) → flat_map of_placed (gap_places y end before gap) ≡ flat_map of_laid gap
in-gaps y end before [] = refl
in-gaps y end before (x ∷ xs) =
    flat_map-append of_placed (placed_in_gap y end before x) (gap_places y end (before ++ x ∷ []) xs)
    ∙ ap (λ us. us ++ flat_map of_placed (gap_places y end (before ++ x ∷ []) xs)) (in-gap y end before x)
    ∙ ap (λ us. of_laid x ++ us) (in-gaps y end (before ++ x ∷ []) xs)

-- what ends a gap starts no box, and ends none
in-item : (y : ℕ) (x : Laid) → ends_gap x ≡ true → flat_map of_placed (placed_item y x) ≡ of_laid x
in-item y (margin m) e = refl
in-item y (solid a) e = refl
in-item y wall e = refl
in-item y (opens b) e = cc
in-item y (closes b) e = cc
in-item y (atom k height) e = refl
in-item y (row r) e = refl

abbrev FirstEnds : List Laid → Type 0
FirstEnds [] = Unit {0}
FirstEnds (x ∷ xs) = ends_gap x ≡ true

first-ends : (xs : List Laid) → FirstEnds (behind_gap xs)
first-ends [] = tt
first-ends (x ∷ xs) = cond_both (ends_gap x) (x ∷ xs) (behind_gap xs) FirstEnds (λ e. e) (λ _. first-ends xs)

split-gap : (xs : List Laid) → flat_map of_laid (gap_of xs) ++ flat_map of_laid (behind_gap xs) ≡ flat_map of_laid xs
split-gap [] = refl
split-gap (x ∷ xs) = go (ends_gap x) (split-gap xs)
  where
    go : (b : Bool) → flat_map of_laid (gap_of xs) ++ flat_map of_laid (behind_gap xs) ≡ flat_map of_laid xs →
        flat_map of_laid (cond b [] (x ∷ gap_of xs)) ++ flat_map of_laid (cond b (x ∷ xs) (behind_gap xs))
        ≡ flat_map of_laid (x ∷ xs)
    go true e = refl
    go false e = append_assoc (of_laid x) (flat_map of_laid (gap_of xs)) (flat_map of_laid (behind_gap xs))
        ∙ ap (λ us. of_laid x ++ us) e

abbrev later_places : (n end : ℕ) → List Laid → List Placed
later_places n end later = elim later as
    (λ _. List Placed) [ [] ↦ [] | x ∷ more ↦ placed_item end x ++ places_from n (end + laid_height x) more ]

places-cross : (n y : ℕ) (xs : List Laid) → length xs < n → flat_map of_placed (places_from n y xs) ≡ flat_map of_laid xs
unfolding places_from
places-cross zero y xs lt = absurd (omega arith)
places-cross (suc n) y xs lt =
    let le = behind-length xs in
    let end = y + gap_height (gap_of xs) (behind_gap xs) in
    flat_map-append of_placed (gap_places y end [] (gap_of xs)) _
    ∙ ap (λ us. us ++ flat_map of_placed (later_places n end (behind_gap xs))) (in-gaps y end [] (gap_of xs))
    ∙ ap (λ us. flat_map of_laid (gap_of xs) ++ us)
    (rest (behind_gap xs) end (omega arith) (first-ends xs) (λ z ys lt. places-cross n z ys lt))
    ∙ split-gap xs
  where
    rest : (later : List Laid) (end : ℕ) → length later ≤ n → FirstEnds later →
        ((z : ℕ) (ys : List Laid) → length ys < n → flat_map of_placed (places_from n z ys) ≡ flat_map of_laid ys) →
        flat_map of_placed (later_places n end later) ≡ flat_map of_laid later
    rest [] end le ends again = refl
    rest (x ∷ more) end le ends again =
        flat_map-append of_placed (placed_item end x) (places_from n (end + laid_height x) more)
        ∙ ap (λ us. us ++ flat_map of_placed (places_from n (end + laid_height x) more)) (in-item end x ends)
        ∙ ap (λ us. of_laid x ++ us) (again (end + laid_height x) more (omega arith))

continued-cross : (d : FlowsData) (y : ℕ) (boxes : List ℕ) →
    flat_map of_placed (continued_from d y boxes) ≡ map continued_into boxes
continued-cross d y [] = refl
continued-cross d y (b ∷ boxes) = ap (λ us. continued_into b ∷ us) (continued-cross d (y + (box_of d b).top) boxes)

-- ---- from what is placed to trees

abbrev boxes_of : List Placed → List ℕ
boxes_of ps = flat_map entered (flat_map of_placed ps)

boxes-cons : (m : ℕ) (p : Placed) (ps : List Placed) →
    count_of m (boxes_of (p ∷ ps)) ≡ count_of m (flat_map entered (of_placed p)) + count_of m (boxes_of ps)
boxes-cons m p ps =
    ap (count_of m) (flat_map-append entered (of_placed p) (flat_map of_placed ps))
    ∙ count-append m (flat_map entered (of_placed p)) (boxes_of ps)

inside-few : (m b : ℕ) (ps : List Placed) → count_of m (boxes_of (inside_box b ps)) ≤ count_of m (boxes_of ps)
inside-few m b [] = omega arith
inside-few m b (p ∷ ps) =
    cond_both (closes_here b p) [] (p ∷ inside_box b ps) (λ qs. count_of m (boxes_of qs) ≤ count_of m (boxes_of (p ∷ ps)))
    (λ _. omega arith) (λ _. omega (arith, inside-few m b ps, boxes-cons m p ps, boxes-cons m p (inside_box b ps)))

behind-few : (m b : ℕ) (ps : List Placed) → count_of m (boxes_of (behind_box b ps)) ≤ count_of m (boxes_of ps)
behind-few m b [] = omega arith
behind-few m b (p ∷ ps) =
    cond_both (closes_here b p) ps (behind_box b ps) (λ qs. count_of m (boxes_of qs) ≤ count_of m (boxes_of (p ∷ ps)))
    (λ _. omega (arith, boxes-cons m p ps)) (λ _. omega (arith, behind-few m b ps, boxes-cons m p ps))

-- In what is placed after its start box b ends: what stands in it leaves no box open, and what is after its end leads on.
record Ends (b : ℕ) (inner outer : List ℕ) (ps : List Placed) (after : List ℕ) : Type 0 where
  bottom : is_some (bottom_of b ps) ≡ true
  inside : Leads inner (flat_map of_placed (inside_box b ps)) []
  behind : Leads outer (flat_map of_placed (behind_box b ps)) after
  parts : flat_map of_placed ps
      ≡ flat_map of_placed (inside_box b ps) ++ (out_of b true ∷ flat_map of_placed (behind_box b ps))

-- Or it stays open, with these boxes in it.
record Stays (b : ℕ) (inner outer : List ℕ) (ps : List Placed) (after : List ℕ) : Type 0 where
  bottom : is_some (bottom_of b ps) ≡ false
  inside : inside_box b ps ≡ ps
  behind : behind_box b ps ≡ []
  still : List ℕ
  leads : Leads inner (flat_map of_placed ps) still
  is : after ≡ still ++ (b ∷ outer)

abbrev EndsOrStays : ℕ → (inner outer : List ℕ) → List Placed → List ℕ → Type 0
EndsOrStays b inner outer ps after = Ends b inner outer ps after ⊎ Stays b inner outer ps after

-- past something that isn't the end of b
past : (b : ℕ) (inner more outer : List ℕ) (p : Placed) (ps : List Placed) (after : List ℕ) → closes_here b p ≡ false →
    ((cs : List Crossing) (to : List ℕ) → Leads more cs to → Leads inner (of_placed p ++ cs) to) →
    EndsOrStays b more outer ps after → EndsOrStays b inner outer (p ∷ ps) after
past b inner more outer p ps after other step (inl r) =
    inl (record {
      bottom = rw other r.bottom;
      inside = rw other (step (flat_map of_placed (inside_box b ps)) [] r.inside);
      behind = rw other r.behind;
      parts = rw other (ap (λ us. of_placed p ++ us) r.parts ∙ sym (append_assoc (of_placed p) _ _));
    })
past b inner more outer p ps after other step (inr r) =
    inr (record {
      bottom = rw other r.bottom;
      inside = rw other (ap (λ qs. p ∷ qs) r.inside);
      behind = rw other r.behind;
      still = r.still;
      leads = step (flat_map of_placed ps) r.still r.leads;
      is = r.is;
    })

no-first : (b i : ℕ) (inner : List ℕ) → count_of b (i ∷ inner) ≡ 0 → (i == b) ≡ false
no-first b i inner none = go (i == b) refl
  where
    go : (e : Bool) → (i == b) ≡ e → e ≡ false
    go true e = let some = count-yes b i inner e in absurd (omega arith)
    go false e = refl

ends-or-stays : (b : ℕ) (ps : List Placed) (inner outer after : List ℕ) → count_of b inner ≡ 0 →
    count_of b (boxes_of ps) ≡ 0 → Leads (inner ++ (b ∷ outer)) (flat_map of_placed ps) after →
    EndsOrStays b inner outer ps after
ends-or-stays b [] inner outer after none new h =
    inr (record { bottom = refl; inside = refl; behind = refl; still = inner; leads = refl; is = sym h })
ends-or-stays b (opens_at c y starts ∷ ps) inner outer after none new h =
    past b inner (c ∷ inner) outer (opens_at c y starts) ps after refl (λ cs to l. l)
    (ends-or-stays b ps (c ∷ inner) outer after
    (omega (arith, count-cons b c inner, count-cons b c (boxes_of ps)))
    (omega (arith, count-cons b c (boxes_of ps))) h)
ends-or-stays b (closes_at c y ∷ ps) [] outer after none new h =
    let same : b ≡ c = h.0 in
    let is : (c == b) ≡ true = grind (arith, nat_tests) in
    inl (record {
      bottom = rw is refl;
      inside = rw is refl;
      behind = rw is h.1;
      parts = rw is (ap (λ x. out_of x true ∷ flat_map of_placed ps) (sym same));
    })
ends-or-stays b (closes_at c y ∷ ps) (i ∷ inner) outer after none new h =
    let same : i ≡ c = h.0 in
    let apart : (c == b) ≡ false = ap (λ x. x == b) (sym same) ∙ no-first b i inner none in
    past b (i ∷ inner) inner outer (closes_at c y) ps after apart (λ cs to l. (same, l))
    (ends-or-stays b ps inner outer after (omega (arith, count-cons b i inner)) new h.1)
ends-or-stays b (atom_at k y ∷ ps) inner outer after none new h =
    past b inner inner outer (atom_at k y) ps after refl (λ cs to l. l) (ends-or-stays b ps inner outer after none new h)
ends-or-stays b (row_at r y ∷ ps) inner outer after none new h =
    past b inner inner outer (row_at r y) ps after refl (λ cs to l. l) (ends-or-stays b ps inner outer after none new h)

-- the walk of a piece and of the trees after it, from that of what stands in it and of those
piece-walk : (b : ℕ) (ps : List Placed) (after : List ℕ) (a z : List Crossing) → EndsOrStays b [] [] ps after →
    ((to : List ℕ) → Leads [] (flat_map of_placed (inside_box b ps)) to →
    a ≡ flat_map of_placed (inside_box b ps) ++ map continued_out to) →
    ((to : List ℕ) → Leads [] (flat_map of_placed (behind_box b ps)) to →
    z ≡ flat_map of_placed (behind_box b ps) ++ map continued_out to) →
    (a ++ out_of b (is_some (bottom_of b ps)) ∷ []) ++ z ≡ flat_map of_placed ps ++ map continued_out after
piece-walk b ps after a z (inl r) in_it behind_it =
    let inner = flat_map of_placed (inside_box b ps) in
    let later = flat_map of_placed (behind_box b ps) in
    let last = map continued_out after in
    ap (λ e. (a ++ out_of b e ∷ []) ++ z) r.bottom
    ∙ ap (λ us. (us ++ out_of b true ∷ []) ++ z) (in_it [] r.inside ∙ append-nil inner)
    ∙ ap (λ us. (inner ++ out_of b true ∷ []) ++ us) (behind_it after r.behind)
    ∙ append_assoc inner (out_of b true ∷ []) (later ++ last)
    ∙ sym (append_assoc inner (out_of b true ∷ later) last)
    ∙ ap (λ us. us ++ last) (sym r.parts)
piece-walk b ps after a z (inr r) in_it behind_it =
    let P : List Placed → Type 0 = λ qs. Leads [] (flat_map of_placed qs) r.still in
    let Q : List Placed → Type 0 = λ qs. Leads [] (flat_map of_placed qs) [] in
    let here = flat_map of_placed ps in
    ap (λ e. (a ++ out_of b e ∷ []) ++ z) r.bottom
    ∙ ap (λ us. (us ++ out_of b false ∷ []) ++ z)
    (in_it r.still (subst P (sym r.inside) r.leads)
    ∙ ap (λ qs. flat_map of_placed qs ++ map continued_out r.still) r.inside)
    ∙ ap (λ us. ((here ++ map continued_out r.still) ++ out_of b false ∷ []) ++ us)
    (behind_it [] (subst Q (sym r.behind) refl) ∙ ap (λ qs. flat_map of_placed qs ++ []) r.behind)
    ∙ append-nil ((here ++ map continued_out r.still) ++ out_of b false ∷ [])
    ∙ append_assoc here (map continued_out r.still) (out_of b false ∷ [])
    ∙ ap (λ us. here ++ us) (sym (map_push continued_out r.still b))
    ∙ ap (λ us. here ++ map continued_out us) (sym r.is)

trees-walk : (columns : RowLaid → List PlainTree) (n : ℕ) (ps : List Placed) (after : List ℕ) → length ps ≤ n →
    ((m : ℕ) → count_of m (boxes_of ps) ≤ 1) → Leads [] (flat_map of_placed ps) after →
    walk_of_trees (plain_trees (trees_of columns n ps)) ≡ flat_map of_placed ps ++ map continued_out after
unfolding trees_of walk_of_tree walk_of_trees
trees-walk columns zero [] after le once h = ap (map continued_out) h
trees-walk columns zero (p ∷ ps) after le once h = absurd (omega arith)
trees-walk columns (suc n) [] after le once h = ap (map continued_out) h
trees-walk columns (suc n) (opens_at b y starts ∷ ps) after le once h =
    let inside = inside-length b ps in
    let behind = behind-box-length b ps in
    let few : (m : ℕ) → count_of m (boxes_of ps) ≤ 1 = λ m. omega (arith, once m, count-cons m b (boxes_of ps)) in
    ap (λ us. into b starts ∷ us)
    (piece-walk b ps after (walk_of_trees (plain_trees (trees_of columns n (inside_box b ps))))
    (walk_of_trees (plain_trees (trees_of columns n (behind_box b ps))))
    (ends-or-stays b ps [] [] after refl (omega (arith, once b, count-self b (boxes_of ps))) h)
    (λ to l. trees-walk columns n (inside_box b ps) to (omega arith) (λ m. omega (arith, few m, inside-few m b ps)) l)
    (λ to l. trees-walk columns n (behind_box b ps) to (omega arith) (λ m. omega (arith, few m, behind-few m b ps)) l))
trees-walk columns (suc n) (closes_at b y ∷ ps) after le once h = absurd h
trees-walk columns (suc n) (atom_at k y ∷ ps) after le once h = trees-walk columns n ps after (omega arith) once h
trees-walk columns (suc n) (row_at r y ∷ ps) after le once h = trees-walk columns n ps after (omega arith) once h

-- the walk of a column's trees: into the boxes that continue in it, then over what is laid, and out of those that stay open
pub column-walk : (columns : RowLaid → List PlainTree) (d : FlowsData) (boxes : List ℕ) (xs : List Laid) (after : List ℕ) →
    ((m : ℕ) → count_of m (boxes ++ flat_map entered (flat_map of_laid xs)) ≤ 1) →
    Leads (reverse boxes) (flat_map of_laid xs) after →
    walk_of_trees (plain_trees (all_trees columns (continued_from d 0 boxes ++ places_from (length xs + 1) (tops d boxes) xs)))
    ≡ map continued_into boxes ++ (flat_map of_laid xs ++ map continued_out after)
column-walk columns d boxes xs after once h =
    trees-walk columns (length ps) ps after (omega arith) (λ m. subst (Once m) (sym all) (few m)) (subst P (sym all) leads)
    ∙ ap (λ us. us ++ map continued_out after) all
    ∙ append_assoc (map continued_into boxes) (flat_map of_laid xs) (map continued_out after)
  where
    ps : List Placed
    ps = continued_from d 0 boxes ++ places_from (length xs + 1) (tops d boxes) xs

    all : flat_map of_placed ps ≡ map continued_into boxes ++ flat_map of_laid xs
    all =
        flat_map-append of_placed (continued_from d 0 boxes) (places_from (length xs + 1) (tops d boxes) xs)
        ∙ ap (λ us. us ++ flat_map of_placed (places_from (length xs + 1) (tops d boxes) xs)) (continued-cross d 0 boxes)
        ∙ ap (λ us. map continued_into boxes ++ us) (places-cross (length xs + 1) (tops d boxes) xs (omega arith))

    Once : ℕ → List Crossing → Type 0
    Once m cs = count_of m (flat_map entered cs) ≤ 1

    P : List Crossing → Type 0
    P cs = Leads [] cs after

    few : (m : ℕ) → Once m (map continued_into boxes ++ flat_map of_laid xs)
    few m =
        let e = flat_map-append entered (map continued_into boxes) (flat_map of_laid xs)
        ∙ ap (λ us. us ++ flat_map entered (flat_map of_laid xs)) (entered-continued boxes) in
        omega (arith, once m, ap (count_of m) e)

    leads : Leads [] (map continued_into boxes ++ flat_map of_laid xs) after
    leads =
        let Q : List ℕ → Type 0 = λ to. Leads [] (map continued_into boxes) to in
        leads-on (map continued_into boxes) (flat_map of_laid xs) [] (reverse boxes) after
        (subst Q (append-nil (reverse boxes)) (into-all boxes [])) h
