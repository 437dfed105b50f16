-- What is laid in a column stands in its tree, in order: whatever is counted of atoms and of rows.
use Rattle.std.proofs.Common.{◌≡◌, ℕ, zero, suc, ◌+◌, ◌<◌, ◌≤◌, ◌==◌, Bool, true, false, cond, List, [], ◌∷◌, ◌++◌, length}
use Rattle.std.proofs.Common.{Option, Some, None, refl, ◌∙◌, ap, arith, append_assoc}
use Rattle.std.proofs.lemmas.List.{append-nil}
use Rattle.std.proofs.lemmas.List.Concat.{flat_map-append}
use Rattle.std.specs.List.{flat_map}
use Rattle.mc_base.specs.PlainTree.{PlainTree, PlainTrees, no_trees, more_trees, plain_trees, atom as atom_tree, piece, row_piece}
use Rattle.flow_list.specs.Data.{Edge, FlowsData, Margin, Solid, Wall, Start, End}
use Rattle.flow_data.specs.Flows.{box_of}
use Rattle.flow_list.specs.ClonedEdges.{tops}
use Rattle.flow_list.specs.Strip.{Strip, lay}
use Rattle.flow_list.specs.Placing.{RowLaid, Laid, margin, solid, wall, opens, closes, atom, row, laid_edge, laid_edges, ends_gap}
use Rattle.flow_list.specs.Placing.{gap_of, behind_gap, gap_height, Placed, opens_at, closes_at, atom_at, row_at, placed_in_gap}
use Rattle.flow_list.specs.Placing.{gap_places, placed_item, laid_height, places_from}
use Rattle.flow_list.specs.Fragments.{closes_here, inside_box, behind_box, bottom_of, trees_of, all_trees, continued_from}

-- ---- what is left is no longer: after a gap, before the end of a box and after it

pub behind-length : (xs : List Laid) → length (behind_gap xs) ≤ length xs
behind-length [] = omega arith
behind-length (x ∷ xs) = go (ends_gap x) (behind-length xs)
  where
    go : (b : Bool) → length (behind_gap xs) ≤ length xs → length (cond b (x ∷ xs) (behind_gap xs)) ≤ length (x ∷ xs)
    go true le = omega arith
    go false le = omega arith

pub inside-length : (b : ℕ) (ps : List Placed) → length (inside_box b ps) ≤ length ps
inside-length b [] = omega arith
inside-length b (p ∷ ps) = go (closes_here b p) (inside-length b ps)
  where
    go : (e : Bool) → length (inside_box b ps) ≤ length ps → length (cond e [] (p ∷ inside_box b ps)) ≤ length (p ∷ ps)
    go true le = omega arith
    go false le = omega arith

pub behind-box-length : (b : ℕ) (ps : List Placed) → length (behind_box b ps) ≤ length ps
behind-box-length b [] = omega arith
behind-box-length b (p ∷ ps) = go (closes_here b p) (behind-box-length b ps)
  where
    go : (e : Bool) → length (behind_box b ps) ≤ length ps → length (cond e ps (behind_box b ps)) ≤ length (p ∷ ps)
    go true le = omega arith
    go false le = omega arith

-- ---- what is counted

-- With what each atom counts and each row.
module _ (X : Type 0) (of_atom : ℕ → List X) (of_row : RowLaid → List X) where
  abbrev pub of_placed : Placed → List X
  of_placed (opens_at b y starts) = []
  of_placed (closes_at b y) = []
  of_placed (atom_at k y) = of_atom k
  of_placed (row_at r y) = of_row r

  abbrev pub of_laid : Laid → List X
  of_laid (margin m) = []
  of_laid (solid a) = []
  of_laid wall = []
  of_laid (opens b) = []
  of_laid (closes b) = []
  of_laid (atom k height) = of_atom k
  of_laid (row r) = of_row r

  -- ---- from what is laid to what is placed

  in-gap : (y end : ℕ) (before : List Laid) (x : Laid) → flat_map of_placed (placed_in_gap y end before x) ≡ of_laid x
  in-gap y end before (margin m) = refl
  in-gap y end before (solid a) = refl
  in-gap y end before wall = refl
  in-gap y end before (opens b) = refl
  in-gap y end before (closes b) = refl
  in-gap y end before (atom k height) = append-nil (of_atom k)
  in-gap y end before (row r) = append-nil (of_row r)

  in-gaps : (y end : ℕ) (before gap : List Laid) → flat_map of_placed (gap_places y end before gap) ≡ flat_map of_laid gap
  in-gaps y end before [] = refl
  in-gaps y end before (x ∷ xs) =
      flat_map-append of_placed (placed_in_gap y end before x) (gap_places y end (before ++ x ∷ []) xs)
      ∙ ap (λ us. us ++ flat_map of_placed (gap_places y end (before ++ x ∷ []) xs)) (in-gap y end before x)
      ∙ ap (λ us. of_laid x ++ us) (in-gaps y end (before ++ x ∷ []) xs)

  in-item : (y : ℕ) (x : Laid) → flat_map of_placed (placed_item y x) ≡ of_laid x
  in-item y (margin m) = refl
  in-item y (solid a) = refl
  in-item y wall = refl
  in-item y (opens b) = refl
  in-item y (closes b) = refl
  in-item y (atom k height) = append-nil (of_atom k)
  in-item y (row r) = append-nil (of_row r)

  split-gap : (xs : List Laid) → flat_map of_laid (gap_of xs) ++ flat_map of_laid (behind_gap xs) ≡ flat_map of_laid xs
  split-gap [] = refl
  split-gap (x ∷ xs) = go (ends_gap x) (split-gap xs)
    where
      go : (b : Bool) → flat_map of_laid (gap_of xs) ++ flat_map of_laid (behind_gap xs) ≡ flat_map of_laid xs →
          flat_map of_laid (cond b [] (x ∷ gap_of xs)) ++ flat_map of_laid (cond b (x ∷ xs) (behind_gap xs))
          ≡ flat_map of_laid (x ∷ xs)
      go true e = refl
      go false e = append_assoc (of_laid x) (flat_map of_laid (gap_of xs)) (flat_map of_laid (behind_gap xs))
          ∙ ap (λ us. of_laid x ++ us) e

  places-keep : (n y : ℕ) (xs : List Laid) → length xs < n → flat_map of_placed (places_from n y xs) ≡ flat_map of_laid xs
  unfolding places_from
  places-keep zero y xs lt = absurd (omega arith)
  places-keep (suc n) y xs lt =
      let le = behind-length xs in
      flat_map-append of_placed (gap_places y (y + gap_height (gap_of xs) (behind_gap xs)) [] (gap_of xs)) _
      ∙ ap (λ us. us ++ flat_map of_placed
      (elim (behind_gap xs) as (λ _. List Placed) [
        | [] ↦ []
        | x ∷ more ↦ placed_item (y + gap_height (gap_of xs) (behind_gap xs)) x ++ places_from n
            (y + gap_height (gap_of xs) (behind_gap xs) + laid_height x) more
      ]))
      (in-gaps y (y + gap_height (gap_of xs) (behind_gap xs)) [] (gap_of xs))
      ∙ ap (λ us. flat_map of_laid (gap_of xs) ++ us)
      (rest (behind_gap xs) (y + gap_height (gap_of xs) (behind_gap xs)) (omega arith) (λ z ys lt. places-keep n z ys lt))
      ∙ split-gap xs
    where
      rest : (later : List Laid) (end : ℕ) → length later ≤ n
          → ((z : ℕ) (ys : List Laid) → length ys < n → flat_map of_placed (places_from n z ys) ≡ flat_map of_laid ys) →
          flat_map of_placed (elim later as (λ _. List Placed)
          [ [] ↦ [] | x ∷ more ↦ placed_item end x ++ places_from n (end + laid_height x) more ]) ≡ flat_map of_laid later
      rest [] end le again = refl
      rest (x ∷ more) end le again =
          flat_map-append of_placed (placed_item end x) (places_from n (end + laid_height x) more)
          ∙ ap (λ us. us ++ flat_map of_placed (places_from n (end + laid_height x) more)) (in-item end x)
          ∙ ap (λ us. of_laid x ++ us) (again (end + laid_height x) more (omega arith))

  continued-none : (d : FlowsData) (y : ℕ) (boxes : List ℕ) → flat_map of_placed (continued_from d y boxes) ≡ []
  continued-none d y [] = refl
  continued-none d y (b ∷ boxes) = continued-none d (y + (box_of d b).top) boxes

  -- with the boxes that continue in the column
  all-keep : (d : FlowsData) (boxes : List ℕ) (xs : List Laid)
      → flat_map of_placed (continued_from d 0 boxes ++ places_from (length xs + 1) (tops d boxes) xs) ≡ flat_map of_laid xs
  all-keep d boxes xs =
      flat_map-append of_placed (continued_from d 0 boxes) (places_from (length xs + 1) (tops d boxes) xs)
      ∙ ap (λ us. us ++ flat_map of_placed (places_from (length xs + 1) (tops d boxes) xs)) (continued-none d 0 boxes)
      ∙ places-keep (length xs + 1) (tops d boxes) xs (omega arith)

  -- ---- from what is placed to trees

  -- this is what trees hold, in order, through boxes
  pub record Reads (read : PlainTrees → List X) (columns : RowLaid → List PlainTree) : Type 0 where
    pub none : read no_trees ≡ []
    pub an_atom : (k y : ℕ) (trees : PlainTrees) → read (more_trees (atom_tree k y) trees) ≡ of_atom k ++ read trees
    pub a_piece : (b : ℕ) (starts : Bool) (y : ℕ) (bottom : Option ℕ) (kids trees : PlainTrees)
        → read (more_trees (piece b starts y bottom kids) trees) ≡ read kids ++ read trees
    pub a_row : (r : RowLaid) (y : ℕ) (height : Option ℕ) (trees : PlainTrees)
        → read (more_trees (row_piece r.row r.from y height (plain_trees (columns r))) trees) ≡ of_row r ++ read trees

  box-splits : (b : ℕ) (ps : List Placed)
      → flat_map of_placed (inside_box b ps) ++ flat_map of_placed (behind_box b ps) ≡ flat_map of_placed ps
  box-splits b [] = refl
  box-splits b (opens_at c y starts ∷ ps) = box-splits b ps
  box-splits b (closes_at c y ∷ ps) = go (c == b) (box-splits b ps)
    where
      go : (e : Bool) → flat_map of_placed (inside_box b ps) ++ flat_map of_placed (behind_box b ps) ≡ flat_map of_placed ps →
          flat_map of_placed (cond e [] (closes_at c y ∷ inside_box b ps)) ++ flat_map of_placed (cond e ps (behind_box b ps))
          ≡ flat_map of_placed ps
      go true e = refl
      go false e = e
  box-splits b (atom_at k y ∷ ps) = append_assoc (of_atom k) (flat_map of_placed (inside_box b ps))
      (flat_map of_placed (behind_box b ps)) ∙ ap (λ us. of_atom k ++ us) (box-splits b ps)
  box-splits b (row_at r y ∷ ps) = append_assoc (of_row r) (flat_map of_placed (inside_box b ps))
      (flat_map of_placed (behind_box b ps)) ∙ ap (λ us. of_row r ++ us) (box-splits b ps)

  trees-keep : (read : PlainTrees → List X) (columns : RowLaid → List PlainTree) → Reads read columns → (n : ℕ) (ps : List Placed)
      → length ps ≤ n → read (plain_trees (trees_of columns n ps)) ≡ flat_map of_placed ps
  unfolding trees_of
  trees-keep read columns reads zero [] le = reads.none
  trees-keep read columns reads zero (p ∷ ps) le = absurd (omega arith)
  trees-keep read columns reads (suc n) [] le = reads.none
  trees-keep read columns reads (suc n) (opens_at b y starts ∷ ps) le =
      let inside = inside-length b ps in
      let behind = behind-box-length b ps in
      reads.a_piece b starts y (bottom_of b ps) (plain_trees (trees_of columns n (inside_box b ps)))
      (plain_trees (trees_of columns n (behind_box b ps)))
      ∙ ap (λ us. us ++ read (plain_trees (trees_of columns n (behind_box b ps))))
      (trees-keep read columns reads n (inside_box b ps) (omega arith))
      ∙ ap (λ us. flat_map of_placed (inside_box b ps) ++ us) (trees-keep read columns reads n (behind_box b ps) (omega arith))
      ∙ box-splits b ps
  trees-keep read columns reads (suc n) (closes_at b y ∷ ps) le = trees-keep read columns reads n ps (omega arith)
  trees-keep read columns reads (suc n) (atom_at k y ∷ ps) le = reads.an_atom k y (plain_trees (trees_of columns n ps))
      ∙ ap (λ us. of_atom k ++ us) (trees-keep read columns reads n ps (omega arith))
  trees-keep read columns reads (suc n) (row_at r y ∷ ps) le =
      reads.a_row r y (cond r.filled None (Some r.height)) (plain_trees (trees_of columns n ps))
      ∙ ap (λ us. of_row r ++ us) (trees-keep read columns reads n ps (omega arith))

  pub column-reads : (read : PlainTrees → List X) (columns : RowLaid → List PlainTree) → Reads read columns
      → (d : FlowsData) (boxes : List ℕ) (xs : List Laid) →
      read (plain_trees (all_trees columns (continued_from d 0 boxes ++ places_from (length xs + 1) (tops d boxes) xs)))
      ≡ flat_map of_laid xs
  column-reads read columns reads d boxes xs =
      let ps = continued_from d 0 boxes ++ places_from (length xs + 1) (tops d boxes) xs in
      trees-keep read columns reads (length ps) ps (omega arith) ∙ all-keep d boxes xs

  -- ---- edges count nothing

  edge-none : (s : Strip) (e : Edge) → flat_map of_laid (laid_edge s e) ≡ []
  edge-none s (Margin m) = go s.drops
    where
      go : (b : Bool) → flat_map of_laid (cond b [] (margin m ∷ [])) ≡ []
      go true = refl
      go false = refl
  edge-none s (Solid a) = go (a == 0)
    where
      go : (b : Bool) → flat_map of_laid (cond b [] (solid a ∷ [])) ≡ []
      go true = refl
      go false = refl
  edge-none s Wall = refl
  edge-none s (Start b) = refl
  edge-none s (End b) = refl

  pub edges-none : (s : Strip) (es : List Edge) → flat_map of_laid (laid_edges s es) ≡ []
  edges-none s [] = refl
  edges-none s (e ∷ es) =
      flat_map-append of_laid (laid_edge s e) (laid_edges (lay s e) es)
      ∙ ap (λ us. us ++ flat_map of_laid (laid_edges (lay s e) es)) (edge-none s e) ∙ edges-none (lay s e) es

  pub skip-edges : (s : Strip) (es : List Edge) (later : List Laid)
      → flat_map of_laid (laid_edges s es ++ later) ≡ flat_map of_laid later
  skip-edges s es later = flat_map-append of_laid (laid_edges s es) later
      ∙ ap (λ us. us ++ flat_map of_laid later) (edges-none s es)
