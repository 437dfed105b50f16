-- A column in which is laid what stands between two places of a sound flow has the pieces of its boxes.
use Rattle.std.proofs.Common.{◌≡◌, ℕ, ◌+◌, ◌-◌, ◌<◌, ◌≤◌, Bool, true, false, List, [], ◌∷◌, ◌++◌, length, map, take, drop, refl}
use Rattle.std.proofs.Common.{sym, subst, ◌∙◌, ap, arith, reverse}
use Rattle.std.specs.Prelude.{is_some}
use Rattle.std.specs.List.{flat_map, AllByRecursion as Each}
use Rattle.std.proofs.lemmas.List.{append-nil, append_cancel_left, drop-take, drop_at, take-append-drop, take-take}
use Rattle.std.proofs.lemmas.List.Concat.{flat_map-append}
use Rattle.mc_base.specs.PlainTree.{PlainTree, PlainTrees, atom as atom_tree, piece, row_piece, column as column_tree, no_trees}
use Rattle.mc_base.specs.PlainTree.{more_trees, plain_trees}
use Rattle.flow_list.specs.Data.{Flow, FlowsData, Seam}
use Rattle.flow_data.specs.Flows.{ended, ends_in, is_among, started, starts_in}
use Rattle.flow_data.specs.Soundness.{count_of, IsSoundFlow}
use Rattle.flow_data.proofs.Counts.{among-count, count-among, count-cons, count-self}
use Rattle.flow_list.specs.ClonedEdges.{tops}
use Rattle.flow_list.specs.Tokens.{Token, item_number}
use Rattle.flow_list.specs.Placing.{Laid, RowLaid, margin, solid, wall, opens, closes, atom, row, places_from}
use Rattle.flow_list.specs.Fragments.{all_trees, continued_from, continuing}
use Rattle.flow_list.proofs.PlaceBounds.{Each-append}
use Rattle.flow_laws.specs.Holding.{items_before}
use Rattle.piece_laws.specs.Boxes.{box_piece, BoxPiece, ends_between, HasPieces, pieces_in_tree, pieces_in_trees, starts_between}
use Rattle.piece_laws.specs.Nesting.{continued_into, continued_out, Crossing, crossings_before, crossings_between, into, out_of}
use Rattle.piece_laws.specs.Nesting.{walk_of_tree, walk_of_trees}
use Rattle.piece_laws.proofs.Leads.{entered, left}
use Rattle.piece_laws.proofs.Walking.{column-walk}
use Rattle.piece_laws.proofs.Between.{Adds, crossed}
use Rattle.piece_laws.proofs.Stacks.{At, between-apart, between-ends, between-leads, between-once, between-starts}

-- ---- from a walk to the pieces

each-front : {X : Type 0} (P : X → Type 0) (xs ys : List X) → Each P (xs ++ ys) → Each P xs
each-front P [] ys all = tt
each-front P (x ∷ xs) ys all = (all.0, each-front P xs ys all.1)

each-back : {X : Type 0} (P : X → Type 0) (xs ys : List X) → Each P (xs ++ ys) → Each P ys
each-back P [] ys all = all
each-back P (x ∷ xs) ys all = each-back P xs ys all.1

boxes-of : (ending xs ys : List ℕ) →
    map (λ (p : BoxPiece). p.box) (map (box_piece false ending) xs ++ map (box_piece true ending) ys) ≡ xs ++ ys
boxes-of ending [] [] = refl
boxes-of ending [] (y ∷ ys) = ap (λ us. y ∷ us) (boxes-of ending [] ys)
boxes-of ending (x ∷ xs) ys = ap (λ us. x ∷ us) (boxes-of ending xs ys)

-- where these boxes end
module _ (ending : List ℕ) where
  abbrev piece_of : Crossing → List BoxPiece
  piece_of (into b starts) = box_piece starts ending b ∷ []
  piece_of (out_of b ends) = []

  abbrev pieces_of : List Crossing → List BoxPiece
  pieces_of cs = flat_map piece_of cs

  -- a box is gone out of with an end where it is one of them
  abbrev IsRight : Crossing → Type 0
  IsRight (into b starts) = Unit {0}
  IsRight (out_of b ends) = ends ≡ is_among ending b

  mutual
    unfolding pieces_in_tree pieces_in_trees walk_of_tree walk_of_trees

    tree-pieces : (tree : PlainTree) → Each IsRight (walk_of_tree tree) → pieces_in_tree tree ≡ pieces_of (walk_of_tree tree)
    tree-pieces (atom_tree k y) all = refl
    tree-pieces (piece b starts y bottom kids) all =
        let last = out_of b (is_some bottom) ∷ [] in
        let right = each-back IsRight (walk_of_trees kids) last all.1 in
        ap (λ e. record { box = b; starts = starts; ends = e } ∷ pieces_in_trees kids) right.0
        ∙ ap (λ ps. box_piece starts ending b ∷ ps)
        (trees-pieces kids (each-front IsRight (walk_of_trees kids) last all.1)
        ∙ sym (flat_map-append piece_of (walk_of_trees kids) last ∙ append-nil (pieces_of (walk_of_trees kids))))
    tree-pieces (row_piece r from y height columns) all = refl
    tree-pieces (column_tree number from end extent kids) all = trees-pieces kids all

    trees-pieces : (trees : PlainTrees) → Each IsRight (walk_of_trees trees) →
        pieces_in_trees trees ≡ pieces_of (walk_of_trees trees)
    trees-pieces no_trees all = refl
    trees-pieces (more_trees tree trees) all =
        ap (λ ps. ps ++ pieces_in_trees trees)
        (tree-pieces tree (each-front IsRight (walk_of_tree tree) (walk_of_trees trees) all))
        ∙ ap (λ ps. pieces_of (walk_of_tree tree) ++ ps)
        (trees-pieces trees (each-back IsRight (walk_of_tree tree) (walk_of_trees trees) all))
        ∙ sym (flat_map-append piece_of (walk_of_tree tree) (walk_of_trees trees))

  -- what a walk goes into that continues, what is laid, and what it goes out of that continues

  into-pieces : (bs : List ℕ) → pieces_of (map continued_into bs) ≡ map (box_piece false ending) bs
  into-pieces [] = refl
  into-pieces (b ∷ bs) = ap (λ ps. box_piece false ending b ∷ ps) (into-pieces bs)

  out-pieces : (bs : List ℕ) → pieces_of (map continued_out bs) ≡ []
  out-pieces [] = refl
  out-pieces (b ∷ bs) = out-pieces bs

  laid-pieces : (xs : List Laid) → pieces_of (crossed xs) ≡ map (box_piece true ending) (flat_map entered (crossed xs))
  laid-pieces [] = refl
  laid-pieces (margin m ∷ xs) = laid-pieces xs
  laid-pieces (solid a ∷ xs) = laid-pieces xs
  laid-pieces (wall ∷ xs) = laid-pieces xs
  laid-pieces (opens b ∷ xs) = ap (λ ps. box_piece true ending b ∷ ps) (laid-pieces xs)
  laid-pieces (closes b ∷ xs) = laid-pieces xs
  laid-pieces (atom k height ∷ xs) = laid-pieces xs
  laid-pieces (row r ∷ xs) = laid-pieces xs

  into-right : (bs : List ℕ) → Each IsRight (map continued_into bs)
  into-right [] = tt
  into-right (b ∷ bs) = (tt, into-right bs)

  out-right : (bs : List ℕ) → ((m : ℕ) → count_of m bs + count_of m ending ≤ 1) → Each IsRight (map continued_out bs)
  out-right [] apart = tt
  out-right (b ∷ bs) apart = (
    sym (count-among b ending (omega (arith, apart b, count-self b bs))),
    out-right bs (λ m. omega (arith, apart m, count-cons m b bs)),
  )

  among : (b : ℕ) → 0 < count_of b ending → is_among ending b ≡ true
  among b some = go (is_among ending b) refl
    where
      go : (e : Bool) → is_among ending b ≡ e → e ≡ true
      go true is = refl
      go false is = absurd (let none = among-count b ending is in omega arith)

  laid-right : (xs : List Laid) → ((m : ℕ) → count_of m (flat_map left (crossed xs)) ≤ count_of m ending) →
      Each IsRight (crossed xs)
  laid-right [] all = tt
  laid-right (margin m ∷ xs) all = laid-right xs all
  laid-right (solid a ∷ xs) all = laid-right xs all
  laid-right (wall ∷ xs) all = laid-right xs all
  laid-right (opens b ∷ xs) all = (tt, laid-right xs all)
  laid-right (closes b ∷ xs) all =
      let later = flat_map left (crossed xs) in (
        sym (among b (omega (arith, all b, count-self b later))),
        laid-right xs (λ m. omega (arith, all m, count-cons m b later)),
      )
  laid-right (atom k height ∷ xs) all = laid-right xs all
  laid-right (row r ∷ xs) all = laid-right xs all

-- ---- seams between two places

take-split : (a b : ℕ) (seams : List Seam) → a ≤ b → take b seams ≡ take a seams ++ take (b - a) (drop a seams)
take-split a b seams le =
    let e : b ≡ a + (b - a) = omega arith in
    sym (take-append-drop a (take b seams)) ∙ ap (λ ss. ss ++ drop a (take b seams)) (take-take a b seams le)
    ∙ ap (λ m. take a seams ++ drop a (take m seams)) e ∙ ap (λ ss. take a seams ++ ss) (drop-take a (b - a) seams)

starts-split : (a b : ℕ) (seams : List Seam) → a ≤ b →
    starts_in (take b seams) ≡ starts_in (take a seams) ++ starts_in (take (b - a) (drop a seams))
starts-split a b seams le =
    ap starts_in (take-split a b seams le)
    ∙ flat_map-append (λ (s : Seam). flat_map started s.head) (take a seams) (take (b - a) (drop a seams))

ends-split : (a b : ℕ) (seams : List Seam) → a ≤ b →
    ends_in (take (b + 1) seams) ≡ ends_in (take (a + 1) seams) ++ ends_in (take (b - a) (drop (a + 1) seams))
ends-split a b seams le =
    let e : b + 1 - (a + 1) ≡ b - a = omega arith in
    ap ends_in (take-split (a + 1) (b + 1) seams (omega arith))
    ∙ flat_map-append (λ (s : Seam). flat_map ended s.tail) (take (a + 1) seams)
    (take (b + 1 - (a + 1)) (drop (a + 1) seams))
    ∙ ap (λ m. ends_in (take (a + 1) seams) ++ ends_in (take m (drop (a + 1) seams))) e

-- ---- a column

module _ (d : FlowsData) (f : Flow) (sound : IsSoundFlow d f) (t u : Token) (a : At d f sound t) (b : At d f sound u)
    (xs : List Laid) (adds : Adds (crossings_before f t) xs (crossings_before f u)) (begun : items_before t ≤ items_before u)
    (past : item_number t ≤ item_number u) where
  abbrev cs : List Crossing
  cs = crossed xs

  abbrev ending : List ℕ
  ending = ends_between f t u

  between-is : crossings_between f t u ≡ cs
  between-is =
      ap (drop (length (crossings_before f t))) (sym adds)
      ∙ drop_at (crossings_before f t) cs (length (crossings_before f t)) refl

  starts-are : flat_map entered cs ≡ starts_between f t u
  starts-are =
      append_cancel_left (starts_in (take (items_before t) f.seams)) (flat_map entered cs) (starts_between f t u)
      (between-starts d f sound t u a b cs adds ∙ starts-split (items_before t) (items_before u) f.seams begun)

  ends-are : flat_map left cs ≡ ending
  ends-are =
      append_cancel_left (ends_in (take (item_number t + 1) f.seams)) (flat_map left cs) ending
      (between-ends d f sound t u a b cs adds ∙ ends-split (item_number t) (item_number u) f.seams past)

  abbrev first : List Crossing
  first = map continued_into (continuing f t)

  abbrev last : List Crossing
  last = map continued_out (reverse (continuing f u))

  all-right : Each (IsRight ending) (first ++ (cs ++ last))
  all-right =
      Each-append (IsRight ending) first (cs ++ last) (into-right ending (continuing f t))
      (Each-append (IsRight ending) cs last
      (laid-right ending xs (λ m. let same = ap (count_of m) ends-are in omega arith))
      (out-right ending (reverse (continuing f u))
      (λ m. omega (arith, between-apart d f sound t u a b cs adds m, ap (count_of m) ends-are))))

  module _ (tree : PlainTree) (walk : walk_of_tree tree ≡ first ++ (cs ++ last)) where
    pieces-are : pieces_in_tree tree
        ≡ map (box_piece false ending) (continuing f t) ++ map (box_piece true ending) (starts_between f t u)
    pieces-are =
        let P : List Crossing → Type 0 = λ all. Each (IsRight ending) all in
        tree-pieces ending tree (subst P (sym walk) all-right) ∙ ap (pieces_of ending) walk
        ∙ flat_map-append (piece_of ending) first (cs ++ last)
        ∙ ap (λ ps. ps ++ pieces_of ending (cs ++ last)) (into-pieces ending (continuing f t))
        ∙ ap (λ ps. map (box_piece false ending) (continuing f t) ++ ps)
        (flat_map-append (piece_of ending) cs last
        ∙ ap (λ ps. pieces_of ending cs ++ ps) (out-pieces ending (reverse (continuing f u)))
        ∙ append-nil (pieces_of ending cs) ∙ laid-pieces ending xs ∙ ap (map (box_piece true ending)) starts-are)

    has-pieces : HasPieces f t u tree
    has-pieces = record {
      pieces = pieces-are;
      once = λ m. omega (
        arith,
        ap (λ ps. count_of m (map (λ (p : BoxPiece). p.box) ps)) pieces-are
            ∙ ap (count_of m) (boxes-of ending (continuing f t) (starts_between f t u)),
        between-once d f sound t u a b cs adds m,
        ap (λ us. count_of m (continuing f t ++ us)) starts-are,
      );
      nest = walk ∙ ap (λ us. first ++ (us ++ last)) (sym between-is);
    }

  pub column-has : (columns : RowLaid → List PlainTree) (number : ℕ) (from end : Token) (extent : ℕ) →
      HasPieces f t u (column_tree number from end extent
      (plain_trees (all_trees columns (continued_from d 0 (continuing f t)
      ++ places_from (length xs + 1) (tops d (continuing f t)) xs))))
  unfolding walk_of_tree
  column-has columns number from end extent =
      has-pieces (column_tree number from end extent
      (plain_trees (all_trees columns (continued_from d 0 (continuing f t)
      ++ places_from (length xs + 1) (tops d (continuing f t)) xs))))
      (column-walk columns d (continuing f t) xs (reverse (continuing f u)) (between-once d f sound t u a b cs adds)
      (between-leads d f sound t u a b cs adds))
