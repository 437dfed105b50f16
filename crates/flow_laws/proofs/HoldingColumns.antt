-- The tree of a column holds just the atoms from the column's place to its end, where each row in it does.
use Rattle.std.proofs.Common.{◌≡◌, ℕ, zero, suc, ◌+◌, ◌-◌, ◌<◌, ◌≤◌, Bool, true, false, cond, List, [], ◌∷◌, ◌++◌, length, take}
use Rattle.std.proofs.Common.{drop, get_or, Option, Some, None, refl, sym, subst, ◌∙◌, ap, arith, append_assoc, ◌⊎◌, inl, inr}
use Rattle.std.proofs.lemmas.Bool.{cases_lt}
use Rattle.std.proofs.lemmas.Bool.Decides.{nat_tests}
use Rattle.std.proofs.lemmas.List.{append-nil, length-drop, drop-drop, drop_all, drop_more}
use Rattle.std.specs.List.{AllByRecursion as Each}
use Rattle.mc_base.specs.PlainTree.{PlainTree, plain_trees}
use Rattle.flow_list.specs.Data.{Flow, FlowsData, Item, Atom, Row}
use Rattle.flow_data.specs.Flows.{flow_in, item_of, no_item}
use Rattle.flow_list.specs.Tokens.{Token, row_start, item_number, within, is_end, IsPlaceBefore}
use Rattle.flow_list.specs.Column.{Inner, Step, room}
use Rattle.flow_list.specs.Rows.{item_left, items_left, left_in}
use Rattle.flow_list.specs.Placing.{RowLaid}
use Rattle.flow_list.specs.Fragments.{continuing, laid_start, laid_to, stop_of, column_made, fragment_of}
use Rattle.flow_laws.specs.Progress.{AtomAt, Contents, item_atoms, atoms_of_items, atoms_in}
use Rattle.flow_laws.specs.Holding.{atoms_in_tree, atoms_in_trees}
use Rattle.flow_laws.proofs.Places.{in-items, IsReached, start-reached}
use Rattle.flow_laws.proofs.HoldingTrees.{Reads, column-reads}
use Rattle.flow_laws.proofs.HoldingEnds.{taken_at, taken-start, taken, EndsAtSeam, EndsInRow, EndsFor, column-ends}
use Rattle.flow_laws.proofs.HoldingLaid.{of_item, of_items, counted, items_to, seam-laid, row-laid}

pub none-left : (c : Contents) (r : ℕ) (f : Flow) (t : Token) → is_end f t ≡ true → atoms_in c r f t ≡ []
none-left c r f t e = rw (drop_all (item_number t) f.items (grind (arith, nat_tests))) refl

module _ (d : FlowsData) (x : Inner) (c : Contents) (columns : RowLaid → List PlainTree) where
  -- what stands of row s from a place on
  abbrev pub piece_of : (s : ℕ) (q : Token) (height : ℕ) (filled : Bool) → List AtomAt
  piece_of s q height filled = atoms_in_trees s
      (plain_trees (columns (record { row = s; from = q; height = height; made_at = Some height; filled = filled })))

  -- A row within holds its atoms: whole, all from a place on; filled, those before the place that it leaves. That place is a
  -- later one.
  pub record RowHolds (s : ℕ) : Type 0 where
    pub whole : (q : Token) (a : ℕ) → IsReached d (flow_in d s) q → piece_of s q a false ≡ c.atoms s q
    pub part : (q : Token) (a : ℕ) → IsReached d (flow_in d s) q →
        piece_of s q a true ++ c.atoms s (x.fill s q a).end ≡ c.atoms s q
    pub none : (q : Token) (a : ℕ) → IsReached d (flow_in d s) q → (x.fill s q a).at_end ≡ true →
        c.atoms s (x.fill s q a).end ≡ []
    pub place : (q : Token) (a : ℕ) → IsReached d (flow_in d s) q → (x.fill s q a).at_end ≡ false →
        IsPlaceBefore d (flow_in d s) (x.fill s q a).end
    pub fewer : (q : Token) (a : ℕ) → IsReached d (flow_in d s) q → (x.fill s q a).at_end ≡ false →
        x.left s (x.fill s q a).end < x.left s q

  abbrev pub ItemHolds : Item → Type 0
  ItemHolds (Atom height kind) = Unit {0}
  ItemHolds (Row s) = RowHolds s

  -- this is a place in an item, or its end
  abbrev PlaceIn : Token → Item → Type 0
  PlaceIn q (Atom height kind) = Unit {0}
  PlaceIn q (Row s) = IsReached d (flow_in d s) q

  abbrev FirstIn : Token → List Item → Type 0
  FirstIn q [] = Unit {0}
  FirstIn q (item ∷ items) = PlaceIn q item

  start-in : (item : Item) → ItemHolds item → PlaceIn row_start item
  start-in (Atom height kind) holds = tt
  start-in (Row s) holds = start-reached d (flow_in d s)

  start-first : (items : List Item) → Each ItemHolds items → FirstIn row_start items
  start-first [] holds = tt
  start-first (item ∷ items) holds = start-in item holds.0

  holds-drop : (n : ℕ) (items : List Item) → Each ItemHolds items → Each ItemHolds (drop n items)
  holds-drop zero items holds = holds
  holds-drop (suc n) [] holds = tt
  holds-drop (suc n) (item ∷ items) holds = holds-drop n items holds.1

  pub holds-at : (items : List Item) (k : ℕ) → Each ItemHolds items → ItemHolds (get_or items k no_item)
  holds-at [] zero holds = tt
  holds-at [] (suc k) holds = tt
  holds-at (item ∷ items) zero holds = holds.0
  holds-at (item ∷ items) (suc k) holds = holds-at items k holds.1

  -- ---- items left

  pub item-some : (item : Item) (q : Token) → 0 < item_left x item q
  item-some (Atom height kind) q = omega arith
  item-some (Row s) q = omega arith

  left-on : (n : ℕ) (q : Token) (items : List Item) → items_left x (taken_at n q) (drop n items) ≤ items_left x q items
  left-on zero q items = omega arith
  left-on (suc n) q [] = omega arith
  left-on (suc n) q (item ∷ items) =
      let P : Token → Type 0 = λ u. items_left x u (drop n items) ≤ items_left x row_start items in
      let rest : items_left x row_start (drop n items) ≤ items_left x row_start items =
      subst P (taken-start n) (left-on n row_start items) in
      omega arith

  left-less : (n : ℕ) (q : Token) (items : List Item) → 0 < n → 0 < length items
      → items_left x row_start (drop n items) < items_left x q items
  left-less zero q items lt some = absurd (omega arith)
  left-less (suc n) q [] lt some = absurd (omega arith)
  left-less (suc n) q (item ∷ items) lt some =
      let P : Token → Type 0 = λ u. items_left x u (drop n items) ≤ items_left x row_start items in
      let rest : items_left x row_start (drop n items) ≤ items_left x row_start items =
      subst P (taken-start n) (left-on n row_start items) in
      let own = item-some item q in
      omega arith

  module _ (r : ℕ) (f : Flow) (holds : Each ItemHolds f.items) where
    -- what each atom and each row in this column counts
    abbrev pub own_atom : ℕ → List AtomAt
    own_atom k = record { row = r; item = k } ∷ []

    abbrev pub own_row : RowLaid → List AtomAt
    own_row rl = atoms_in_trees rl.row (plain_trees (columns rl))

    reads : Reads AtomAt own_atom own_row (atoms_in_trees r) columns
    unfolding atoms_in_trees atoms_in_tree
    reads = record {
      none = refl;
      an_atom = λ k y trees. refl;
      a_piece = λ b starts y bottom kids trees. refl;
      a_row = λ rl y height trees. refl;
    }

    item-atoms : (k : ℕ) (q : Token) (item : Item) → ItemHolds item → PlaceIn q item
        → of_item AtomAt own_atom own_row x k q item ≡ item_atoms c r k item q
    item-atoms k q (Atom height kind) h place = refl
    item-atoms k q (Row s) h place = h.whole q (x.size s q) place

    -- n items, and what follows them
    rest-holds : (n k : ℕ) (q : Token) (items : List Item) → n ≤ length items → Each ItemHolds items → FirstIn q items →
        of_items AtomAt own_atom own_row x k q (take n items) ++ atoms_of_items c r (k + n) (taken_at n q) (drop n items)
        ≡ atoms_of_items c r k q items
    rest-holds zero k q items le each first = let e : k + 0 ≡ k = omega arith in ap (λ m. atoms_of_items c r m q items) e
    rest-holds (suc n) k q [] le each first = absurd (omega arith)
    rest-holds (suc n) k q (item ∷ items) le each first =
        let later = of_items AtomAt own_atom own_row x (suc k) row_start (take n items) in
        let e : k + suc n ≡ suc k + n = omega arith in
        append_assoc (of_item AtomAt own_atom own_row x k q item) later (atoms_of_items c r (k + suc n) row_start (drop n items))
        ∙ ap (λ us. us ++ (later ++ atoms_of_items c r (k + suc n) row_start (drop n items))) (item-atoms k q item each.0 first)
        ∙ ap (λ m. item_atoms c r k item q ++ (later ++ atoms_of_items c r m row_start (drop n items))) e
        ∙ ap (λ u. item_atoms c r k item q ++ (later ++ atoms_of_items c r (suc k + n) u (drop n items))) (sym (taken-start n))
        ∙ ap (λ us. item_atoms c r k item q ++ us)
        (rest-holds n (suc k) row_start items (omega arith) each.1 (start-first items each.1))

    seam-place : (k : ℕ) → (is_end f (k ∷ []) ≡ true) ⊎ IsPlaceBefore d f (k ∷ [])
    seam-place k = go (cases_lt k (length f.items))
      where
        go : (k < length f.items) ⊎ (length f.items ≤ k) → (is_end f (k ∷ []) ≡ true) ⊎ IsPlaceBefore d f (k ∷ [])
        go (inl lt) = inr lt
        go (inr ge) = inl (grind (arith, nat_tests))

    module _ (t : Token) (here : IsPlaceBefore d f t) where
      inside : item_number t < length f.items
      inside = in-items d f t here

      -- the place in item k from which it is taken
      pub place-at : (k s : ℕ) → item_of f k ≡ Row s → item_number t ≤ k → IsReached d (flow_in d s) (taken x f t k)
      place-at k s is le = go (k - item_number t) refl
        where
          first : (u : Token) → IsPlaceBefore d f u → item_of f (item_number u) ≡ Row s → IsReached d (flow_in d s) (within u)
          first [] place e = absurd place
          first (i ∷ []) place e = start-reached d (flow_in d s)
          first (i ∷ (j ∷ rest)) place e =
              let both : Row place.1 ≡ Row s = sym place.2 ∙ e in
              let rows : place.1 ≡ s = cc in
              let P : ℕ → Type 0 = λ n. IsPlaceBefore d (flow_in d n) (j ∷ rest) in
              inr (subst P rows place.3)

          go : (n : ℕ) → k - item_number t ≡ n → IsReached d (flow_in d s) (taken_at n (within t))
          go zero e = let same : k ≡ item_number t = omega arith in let Q : ℕ → Type 0 = λ k. item_of f k ≡ Row s
              in first t here (subst Q same is)
          go (suc n) e = start-reached d (flow_in d s)

      first-in : FirstIn (within t) (drop (item_number t) f.items)
      first-in =
          let P : List Item → Type 0 = λ items. FirstIn (within t) items in
          subst P (sym (drop_more f.items (item_number t) no_item inside)) (go (item_of f (item_number t)) refl)
        where
          go : (item : Item) → item_of f (item_number t) ≡ item → PlaceIn (within t) item
          go (Atom height kind) is = tt
          go (Row s) is =
              let P : ℕ → Type 0 = λ n. IsReached d (flow_in d s) (taken_at n (within t)) in
              let e : item_number t - item_number t ≡ 0 = omega arith in
              subst P e (place-at (item_number t) s is (omega arith))

      -- the items up to item k, and the atoms from there on
      to-item : (k : ℕ) → item_number t ≤ k → k ≤ length f.items
          → items_to AtomAt own_atom own_row x f t k ++ atoms_of_items c r k (taken x f t k) (drop k f.items) ≡ atoms_in c r f t
      to-item k le known =
          let e : item_number t + (k - item_number t) ≡ k = omega arith in
          let dropped : drop k f.items ≡ drop (k - item_number t) (drop (item_number t) f.items) =
          sym (drop-drop (k - item_number t) (item_number t) f.items ∙ ap (λ m. drop m f.items) e) in
          ap (λ m. items_to AtomAt own_atom own_row x f t k ++ atoms_of_items c r m (taken x f t k) (drop k f.items)) (sym e)
          ∙ ap (λ items. items_to AtomAt own_atom own_row x f t k ++ atoms_of_items c r (item_number t + (k - item_number t))
          (taken x f t k) items) dropped
          ∙ rest-holds (k - item_number t) (item_number t) (within t) (drop (item_number t) f.items)
          (let l = length-drop (item_number t) f.items in omega arith) (holds-drop (item_number t) f.items holds) first-in

      from-start : (k : ℕ) → item_number t < k → row_start ≡ taken x f t k
      from-start k lt = let P : ℕ → Type 0 = λ n. row_start ≡ taken_at n (within t)
          in let e : suc (k - suc (item_number t)) ≡ k - item_number t = omega arith in subst P e refl

      -- what the column holds that ends there
      abbrev held_to : Option ℕ → Option Step → Token → List AtomAt
      held_to h stop end = counted AtomAt own_atom own_row x (laid_start d f t ++ laid_to x d f t h stop end)

      abbrev up_to : ℕ → List AtomAt
      up_to k = items_to AtomAt own_atom own_row x f t k

      seam-holds : (h : Option ℕ) (stop : Option Step) (end : Token) → EndsAtSeam x f t h stop end
          → held_to h stop end ++ atoms_in c r f end ≡ atoms_in c r f t
      seam-holds h stop end e =
          let later = e.later in
          ap (λ us. us ++ atoms_in c r f end) (seam-laid AtomAt own_atom own_row x f d t h stop end e)
          ∙ ap (λ u. up_to e.seam ++ atoms_in c r f u) e.is
          ∙ ap (λ u. up_to e.seam ++ atoms_of_items c r e.seam u (drop e.seam f.items)) (from-start e.seam later)
          ∙ to-item e.seam (omega arith) e.known

      -- a column that ends in a row or after it
      module _ (h : ℕ) (s : Step) (end : Token) (e : EndsInRow x f t h s end) where
        row_holds : RowHolds e.row
        row_holds = let P : Item → Type 0 = λ item. ItemHolds item in subst P e.item (holds-at f.items s.item holds)

        from_place : IsReached d (flow_in d e.row) e.from
        from_place = subst (IsReached d (flow_in d e.row)) (sym e.taken_from) (place-at s.item e.row e.item e.later)

        abbrev left : Token
        left = (x.fill e.row e.from (room s h)).end

        left_place : (x.fill e.row e.from (room s h)).at_end ≡ false → IsPlaceBefore d (flow_in d e.row) left
        left_place = row_holds.place e.from (room s h) from_place

        in-row : (u : Token) → IsPlaceBefore d (flow_in d e.row) u → (j : ℕ) × (rest : Token) × (u ≡ j ∷ rest)
        in-row [] place = absurd place
        in-row (j ∷ rest) place = (j, rest, refl)

        abbrev piece : List AtomAt
        piece = piece_of e.row e.from (room s h) true

        abbrev behind : List AtomAt
        behind = atoms_of_items c r (suc s.item) row_start (drop (s.item + 1) f.items)

        item-first : drop s.item f.items ≡ Row e.row ∷ drop (s.item + 1) f.items
        item-first = let known = e.known in drop_more f.items s.item no_item (omega arith)
            ∙ ap (λ item. item ∷ drop (s.item + 1) f.items) e.item

        split-row : (q : Token) → atoms_of_items c r s.item q (drop s.item f.items) ≡ c.atoms e.row q ++ behind
        split-row q = ap (λ items. atoms_of_items c r s.item q items) item-first

        cut-holds : (u : Token) → IsPlaceBefore d (flow_in d e.row) u → piece ++ c.atoms e.row u ≡ c.atoms e.row e.from
            → piece ++ atoms_in c r f (s.item ∷ u) ≡ c.atoms e.row e.from ++ behind
        cut-holds [] place part = absurd place
        cut-holds (j ∷ rest) place part =
            ap (λ us. piece ++ us) (split-row (j ∷ rest)) ∙ sym (append_assoc piece (c.atoms e.row (j ∷ rest)) behind)
            ∙ ap (λ us. us ++ behind) part

        row-part : piece ++ atoms_in c r f (cond (x.fill e.row e.from (room s h)).at_end ((s.item + 1) ∷ []) (s.item ∷ left))
            ≡ c.atoms e.row e.from ++ behind
        row-part = go (x.fill e.row e.from (room s h)).at_end refl
          where
            part : piece ++ c.atoms e.row left ≡ c.atoms e.row e.from
            part = row_holds.part e.from (room s h) from_place

            all : c.atoms e.row left ≡ [] → piece ≡ c.atoms e.row e.from
            all none = sym (append-nil piece) ∙ ap (λ us. piece ++ us) (sym none) ∙ part

            go : (b : Bool) → (x.fill e.row e.from (room s h)).at_end ≡ b
                → piece ++ atoms_in c r f (cond b ((s.item + 1) ∷ []) (s.item ∷ left)) ≡ c.atoms e.row e.from ++ behind
            go true is =
                let one : s.item + 1 ≡ suc s.item = omega arith in
                ap (λ m. piece ++ atoms_of_items c r m row_start (drop (s.item + 1) f.items)) one
                ∙ ap (λ us. us ++ behind) (all (row_holds.none e.from (room s h) from_place is))
            go false is = cut-holds left (left_place is) part

        row-ends : held_to (Some h) (Some s) end ++ atoms_in c r f end ≡ atoms_in c r f t
        row-ends =
            let known = e.known in
            ap (λ us. us ++ atoms_in c r f end)
            (row-laid AtomAt own_atom own_row x f d t h s end e (λ is. in-row left (left_place is)))
            ∙ append_assoc (up_to s.item) piece (atoms_in c r f end)
            ∙ ap (λ us. up_to s.item ++ us) (ap (λ u. piece ++ atoms_in c r f u) e.is ∙ row-part ∙ sym (split-row e.from)
            ∙ ap (λ q. atoms_of_items c r s.item q (drop s.item f.items)) e.taken_from)
            ∙ to-item s.item e.later (omega arith)

        -- that place is later
        left-at : items_left x e.from (drop s.item f.items) ≤ left_in x f t
        left-at =
            let a = left-on (s.item - item_number t) (within t) (drop (item_number t) f.items) in
            let later = e.later in
            let n : item_number t + (s.item - item_number t) ≡ s.item = omega arith in
            let dropped : drop (s.item - item_number t) (drop (item_number t) f.items) ≡ drop s.item f.items =
            drop-drop (s.item - item_number t) (item_number t) f.items ∙ ap (λ m. drop m f.items) n in
            let P : List Item → Type 0 = λ items. items_left x (taken x f t s.item) items ≤ left_in x f t in
            let Q : Token → Type 0 = λ q. items_left x q (drop s.item f.items) ≤ left_in x f t in
            subst Q (sym e.taken_from) (subst P dropped a)

        cut-fewer : (u : Token) → IsPlaceBefore d (flow_in d e.row) u → x.left e.row u < x.left e.row e.from
            → left_in x f (s.item ∷ u) < left_in x f t
        cut-fewer [] place less = absurd place
        cut-fewer (j ∷ rest) place less =
            let P : List Item → Type 0 = λ items. items_left x e.from items ≤ left_in x f t in
            let Q : List Item → Type 0 = λ items. items_left x (j ∷ rest) items < left_in x f t in
            let a : items_left x e.from (Row e.row ∷ drop (s.item + 1) f.items) ≤ left_in x f t = subst P item-first left-at in
            subst Q (sym item-first) (omega arith)

        row-fewer : left_in x f end < left_in x f t
        row-fewer = let P : Token → Type 0 = λ u. left_in x f u < left_in x f t
            in subst P (sym e.is) (go (x.fill e.row e.from (room s h)).at_end refl)
          where
            go : (b : Bool) → (x.fill e.row e.from (room s h)).at_end ≡ b
                → left_in x f (cond b ((s.item + 1) ∷ []) (s.item ∷ left)) < left_in x f t
            go true is =
                let P : List Item → Type 0 = λ items. items_left x e.from items ≤ left_in x f t in
                let a : items_left x e.from (Row e.row ∷ drop (s.item + 1) f.items) ≤ left_in x f t =
                subst P item-first left-at in
                omega arith
            go false is = cut-fewer left (left_place is) (row_holds.fewer e.from (room s h) from_place is)

        row-reached : (is_end f end ≡ true) ⊎ IsPlaceBefore d f end
        row-reached = let P : Token → Type 0 = λ u. (is_end f u ≡ true) ⊎ IsPlaceBefore d f u
            in subst P (sym e.is) (go (x.fill e.row e.from (room s h)).at_end refl)
          where
            cut-place : (u : Token) → IsPlaceBefore d (flow_in d e.row) u → IsPlaceBefore d f (s.item ∷ u)
            cut-place [] place = absurd place
            cut-place (j ∷ rest) place = (e.known, e.row, e.item, place)

            go : (b : Bool) → (x.fill e.row e.from (room s h)).at_end ≡ b →
                (is_end f (cond b ((s.item + 1) ∷ []) (s.item ∷ left)) ≡ true)
                ⊎ IsPlaceBefore d f (cond b ((s.item + 1) ∷ []) (s.item ∷ left))
            go true is = seam-place (s.item + 1)
            go false is = inr (cut-place left (left_place is))

      -- ---- however it ends

      ends-hold : (h : Option ℕ) (stop : Option Step) (end : Token) → EndsFor x f t h stop end
          → held_to h stop end ++ atoms_in c r f end ≡ atoms_in c r f t
      ends-hold None stop end e = seam-holds None stop end e
      ends-hold (Some h) None end e = seam-holds (Some h) None end e
      ends-hold (Some h) (Some s) end (inl e) = seam-holds (Some h) (Some s) end e
      ends-hold (Some h) (Some s) end (inr e) = row-ends h s end e

      seam-reached : (h : Option ℕ) (stop : Option Step) (end : Token) → EndsAtSeam x f t h stop end
          → (is_end f end ≡ true) ⊎ IsPlaceBefore d f end
      seam-reached h stop end e = let P : Token → Type 0 = λ u. (is_end f u ≡ true) ⊎ IsPlaceBefore d f u
          in subst P (sym e.is) (seam-place e.seam)

      ends-reached : (h : Option ℕ) (stop : Option Step) (end : Token) → EndsFor x f t h stop end
          → (is_end f end ≡ true) ⊎ IsPlaceBefore d f end
      ends-reached None stop end e = seam-reached None stop end e
      ends-reached (Some h) None end e = seam-reached (Some h) None end e
      ends-reached (Some h) (Some s) end (inl e) = seam-reached (Some h) (Some s) end e
      ends-reached (Some h) (Some s) end (inr e) = row-reached h s end e

      seam-fewer : (h : Option ℕ) (stop : Option Step) (end : Token) → EndsAtSeam x f t h stop end
          → left_in x f end < left_in x f t
      seam-fewer h stop end e =
          let later = e.later in
          let n : item_number t + (e.seam - item_number t) ≡ e.seam = omega arith in
          let dropped : drop (e.seam - item_number t) (drop (item_number t) f.items) ≡ drop e.seam f.items =
          drop-drop (e.seam - item_number t) (item_number t) f.items ∙ ap (λ m. drop m f.items) n in
          let P : List Item → Type 0 = λ items. items_left x row_start items < left_in x f t in
          let Q : Token → Type 0 = λ u. left_in x f u < left_in x f t in
          let some : 0 < length (drop (item_number t) f.items) = let l = length-drop (item_number t) f.items in let lt = inside
          in omega arith in
          subst Q (sym e.is) (subst P dropped
          (left-less (e.seam - item_number t) (within t) (drop (item_number t) f.items) (omega arith) some))

      ends-fewer : (h : Option ℕ) (stop : Option Step) (end : Token) → EndsFor x f t h stop end → left_in x f end < left_in x f t
      ends-fewer None stop end e = seam-fewer None stop end e
      ends-fewer (Some h) None end e = seam-fewer (Some h) None end e
      ends-fewer (Some h) (Some s) end (inl e) = seam-fewer (Some h) (Some s) end e
      ends-fewer (Some h) (Some s) end (inr e) = row-fewer h s end e

      pub column-holds : (number : ℕ) (h : Option ℕ)
          → atoms_in_tree r (fragment_of columns x d number f h t) ++ atoms_in c r f (column_made x d f h t).end
          ≡ atoms_in c r f t
      unfolding atoms_in_tree atoms_in_trees
      column-holds number h =
          ap (λ us. us ++ atoms_in c r f (column_made x d f h t).end)
          (column-reads AtomAt own_atom own_row (atoms_in_trees r) columns reads d (continuing f t)
          (laid_start d f t ++ laid_to x d f t h (stop_of x d f t h) (column_made x d f h t).end))
          ∙ ends-hold h (stop_of x d f t h) (column_made x d f h t).end (column-ends x f t d h inside)

      pub column-reached : (h : Option ℕ) → (is_end f (column_made x d f h t).end ≡ true)
          ⊎ IsPlaceBefore d f (column_made x d f h t).end
      column-reached h = ends-reached h (stop_of x d f t h) (column_made x d f h t).end (column-ends x f t d h inside)

      pub column-fewer : (h : Option ℕ) → left_in x f (column_made x d f h t).end < left_in x f t
      column-fewer h = ends-fewer h (stop_of x d f t h) (column_made x d f h t).end (column-ends x f t d h inside)
