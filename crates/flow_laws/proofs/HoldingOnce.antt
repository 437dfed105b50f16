-- No atom stands twice among those of a row: each row stands in one place, so the rows in two rows of a flow are different ones.
use Rattle.std.proofs.Common.{◌≡◌, ℕ, zero, suc, ◌+◌, ◌<◌, ◌≤◌, ◌==◌, Bool, true, cond, List, [], ◌∷◌, ◌++◌, length, drop, get_or}
use Rattle.std.proofs.Common.{map, refl, sym, subst, ◌∙◌, ap, arith, sum_by, ◌⊎◌, inl, inr}
use Rattle.std.specs.Prelude.{All, AllPairs, ◌≢◌}
use Rattle.std.specs.List.{AllByRecursion as Each, flat_map}
use Rattle.std.proofs.lemmas.Bool.{cases_lt}
use Rattle.std.proofs.lemmas.Bool.Decides.{nat_tests}
use Rattle.std.proofs.lemmas.List.Elements.{All-from_recursion}
use Rattle.std.proofs.lemmas.List.Kept.{AllPairs-cons}
use Rattle.std.proofs.lemmas.List.Sums.{sum_by-cons, sum_by-append, get_or-le-sum_by}
use Rattle.flow_list.specs.Data.{FlowsData, Item, RowInfo, Stack, Atom, Row}
use Rattle.flow_data.specs.Flows.{row_of, flow_in, row_in, rows_in, no_row, no_flow}
use Rattle.flow_data.specs.Soundness.{IsSound, count_of}
use Rattle.flow_data.proofs.OpenBoxes.{some-index}
use Rattle.flow_data.proofs.Counts.{count-cons, count-self}
use Rattle.flow_list.specs.Tokens.{Token, row_start, item_number, within}
use Rattle.flow_list.proofs.PlaceBounds.{Each-append}
use Rattle.flow_laws.specs.Progress.{AtomAt, atoms_of_items, contents_to, atoms_from}
use Rattle.flow_laws.proofs.Totals.{sum-flat, sum-map}
use Rattle.flow_laws.proofs.HoldingRows.{IsWithin, rows-within}
use Rattle.flow_laws.proofs.HoldingParts.{split-count, once-in-flow}

-- ---- lists

sum-two : {X : Type 0} (g : X → ℕ) (xs : List X) (i j : ℕ) (d : X) → i < j → j < length xs
    → g (get_or xs i d) + g (get_or xs j d) ≤ sum_by g xs
sum-two g [] i j d lt known = absurd (omega arith)
sum-two g (x ∷ xs) i zero d lt known = absurd (omega arith)
sum-two g (x ∷ xs) zero (suc j) d lt known = omega (arith, sum_by-cons g x xs, get_or-le-sum_by g xs j d (omega arith))
sum-two g (x ∷ xs) (suc i) (suc j) d lt known = omega (arith, sum_by-cons g x xs, sum-two g xs i j d (omega arith) (omega arith))

-- where a sum is 1 at most, it has one place
pub one-place : {X : Type 0} (g : X → ℕ) (xs : List X) (i j : ℕ) (d : X) → sum_by g xs ≤ 1 → i < length xs → j < length xs
    → 1 ≤ g (get_or xs i d) → 1 ≤ g (get_or xs j d) → i ≡ j
one-place g xs i j d few in_i in_j at_i at_j = go (cases_lt i j) (cases_lt j i)
  where
    go : (i < j) ⊎ (j ≤ i) → (j < i) ⊎ (i ≤ j) → i ≡ j
    go (inl lt) b = absurd (let two = sum-two g xs i j d lt in_j in omega arith)
    go (inr ge) (inl lt) = absurd (let two = sum-two g xs j i d lt in_i in omega arith)
    go (inr ge) (inr le) = omega arith

pub one-at : (m n : ℕ) → m ≡ n → 1 ≤ cond (m == n) 1 0
one-at m n e = let yes : (m == n) ≡ true = grind (arith, nat_tests) in let P : Bool → Type 0 = λ b. 1 ≤ cond b 1 0
    in subst P (sym yes) (omega arith)

-- these atoms differ from each other
abbrev Apart : List AtomAt → Type 0
Apart [] = Unit {0}
Apart (a ∷ as_) = Each (λ b. a ≢ b) as_ × Apart as_

apart-append : (xs ys : List AtomAt) → Apart xs → Apart ys → Each (λ x. Each (λ y. x ≢ y) ys) xs → Apart (xs ++ ys)
apart-append [] ys a b c = b
apart-append (x ∷ xs) ys a b c = (Each-append (λ y. x ≢ y) xs ys a.0 c.0, apart-append xs ys a.1 b c.1)

apart-pairs : (xs : List AtomAt) → Apart xs → AllPairs (λ a b. a ≢ b) xs
apart-pairs [] a = λ i j e lt in_list. absurd (omega arith)
apart-pairs (x ∷ xs) a = AllPairs-cons (λ a b. a ≢ b) x xs (All-from_recursion (λ b. x ≢ b) xs a.0) (apart-pairs xs a.1)

each-with : {X : Type 0} (P Q : X → Type 0) (xs : List X) → ((x : X) → P x → Q x) → Each P xs → Each Q xs
each-with P Q [] make all = tt
each-with P Q (x ∷ xs) make all = (make x all.0, each-with P Q xs make all.1)

-- ---- rows in rows

module _ (d : FlowsData) (sound : IsSound d) where
  -- row v stands directly in row u
  abbrev IsChild : ℕ → ℕ → Type 0
  IsChild u v = 1 ≤ count_of v (rows_in (flow_in d u))

  record Known (u v : ℕ) : Type 0 where
    known : v < length d.rows
    later : u < v

  child-known : (u v : ℕ) → u < length d.rows → IsChild u v → Known u v
  child-known u v lt child =
      let at = some-index v (rows_in (flow_in d u)) (omega arith) in
      let w : IsWithin d sound u v = subst (IsWithin d sound u) at.2 (rows-within d sound u lt at.0 v at.1) in
      record { known = w.known; later = w.later }

  -- a row stands directly in one row
  one-parent : (u w v : ℕ) → u < length d.rows → w < length d.rows → IsChild u v → IsChild w v → u ≡ w
  one-parent u w v lt_u lt_w child_u child_w =
      let v_known = (child-known u v lt_u child_u).known in
      let belongs = sound.row_belongs v v_known in
      let all = sum-flat (λ k. cond (k == v) 1 0) rows_in d.flows in
      let row_u = sound.rows u no_row lt_u in
      let row_w = sound.rows w no_row lt_w in
      let flows : (row_of d u).flow ≡ (row_of d w).flow = one-place (λ f. count_of v (rows_in f)) d.flows (row_of d u).flow
      (row_of d w).flow no_flow (omega arith) row_u.flow row_w.flow child_u child_w in
      let owned = sound.flow_belongs (row_of d u).flow row_u.flow in
      let parts = sum_by-append (λ k. cond (k == (row_of d u).flow) 1 0) (map (λ (r : RowInfo). r.flow) d.rows)
      (map (λ (s : Stack). s.flow) d.stacks) in
      let rows = sum-map (λ k. cond (k == (row_of d u).flow) 1 0) (λ (r : RowInfo). r.flow) d.rows in
      one-place (λ (r : RowInfo). cond (r.flow == (row_of d u).flow) 1 0) d.rows u w no_row (omega arith) lt_u lt_w
      (one-at (row_of d u).flow (row_of d u).flow refl) (one-at (row_of d w).flow (row_of d u).flow (sym flows))

  -- row v is row s or stands in it, directly or within its rows, m deep
  abbrev Has : ℕ → ℕ → ℕ → Type 0
  Has zero s v = ⊥
  Has (suc m) s v = (s ≡ v) ⊎ ((u : ℕ) × IsChild s u × Has m u v)

  record Below (s v : ℕ) : Type 0 where
    known : v < length d.rows
    from : s ≤ v

  has-below : (m s v : ℕ) → s < length d.rows → Has m s v → Below s v
  has-below zero s v lt has = absurd has
  has-below (suc m) s v lt (inl e) = record { known = omega arith; from = omega arith }
  has-below (suc m) s v lt (inr c) =
      let child = child-known s c.0 lt c.1 in
      let more = has-below m c.0 v child.known c.2 in
      let later = child.later in
      let from = more.from in
      record { known = more.known; from = omega arith }

  -- it is row s, or stands directly in a row that row s has
  has-parent : (m s v : ℕ) → Has m s v → (s ≡ v) ⊎ ((p : ℕ) × Has m s p × IsChild p v)
  has-parent zero s v has = absurd has
  has-parent (suc m) s v (inl e) = inl e
  has-parent (suc m) s v (inr c) = inr (go (has-parent m c.0 v c.2))
    where
      go : (c.0 ≡ v) ⊎ ((p : ℕ) × Has m c.0 p × IsChild p v) → (p : ℕ) × Has (suc m) s p × IsChild p v
      go (inl e) = (s, inl refl, subst (IsChild s) e c.1)
      go (inr p) = (p.0, inr (c.0, c.1, p.1), p.2)

  -- two rows that stand directly in row s have no row in common
  disjoint : (n m s a b v : ℕ) → v < n → s < length d.rows → IsChild s a → IsChild s b → (a ≡ b → ⊥) → Has m a v → Has m b v → ⊥
  disjoint zero m s a b v low lt child_a child_b differ has_a has_b = omega arith
  disjoint (suc n) m s a b v low lt child_a child_b differ has_a has_b =
      go (has-parent m a v has_a) (has-parent m b v has_b)
      (λ p small in_a in_b. disjoint n m s a b p small lt child_a child_b differ in_a in_b)
    where
      known_a : Known s a
      known_a = child-known s a lt child_a

      known_b : Known s b
      known_b = child-known s b lt child_b

      -- the parent of a row in row c, another one than c
      above : (c e p : ℕ) → c ≡ v → IsChild s c → Known s e → Has m e p → IsChild p v → ⊥
      above c e p is child ke has parent =
          let below = has-below m e p ke.known has in
          let from = below.from in
          let later = ke.later in
          let same : p ≡ s = one-parent p s v below.known lt parent (subst (IsChild s) is child) in
          omega arith

      go : (a ≡ v) ⊎ ((p : ℕ) × Has m a p × IsChild p v) → (b ≡ v) ⊎ ((p : ℕ) × Has m b p × IsChild p v)
          → ((p : ℕ) → p < n → Has m a p → Has m b p → ⊥) → ⊥
      go (inl e) (inl g) again = differ (e ∙ sym g)
      go (inl e) (inr q) again = above a b q.0 e child_a known_b q.1 q.2
      go (inr p) (inl g) again = above b a p.0 g child_b known_a p.1 p.2
      go (inr p) (inr q) again =
          let below_p = has-below m a p.0 known_a.known p.1 in
          let below_q = has-below m b q.0 known_b.known q.1 in
          let same : q.0 ≡ p.0 = one-parent q.0 p.0 v below_q.known below_p.known q.2 p.2 in
          let later = (child-known p.0 v below_p.known p.2).later in
          again p.0 (omega arith) p.1 (subst (Has m b) same q.1)

  -- ---- the atoms of a row

  -- the atoms of row s from any place on differ, and stand in it
  record RowOnce (m s : ℕ) : Type 0 where
    apart : (q : Token) → Apart ((contents_to d m).atoms s q)
    stand : (q : Token) → Each (λ (a : AtomAt). Has m s a.row) ((contents_to d m).atoms s q)

  abbrev ItemOnce : ℕ → Item → Type 0
  ItemOnce m (Atom height kind) = Unit {0}
  ItemOnce m (Row u) = RowOnce m u

  items-once : (m s : ℕ) → ((u : ℕ) → u < length d.rows → RowOnce m u) → (items : List Item)
      → All (IsWithin d sound s) (flat_map row_in items) → Each (ItemOnce m) items
  items-once m s once [] all = tt
  items-once m s once (Atom height kind ∷ items) all = (tt, items-once m s once items all)
  items-once m s once (Row u ∷ items) all =
      (once u (all 0 u (omega arith)).known, items-once m s once items (λ k e lt. all (suc k) e (omega arith)))

  module _ (m s : ℕ) (lt : s < length d.rows) where
    abbrev RowsOf : List Item → ℕ → ℕ
    RowsOf items u = count_of u (flat_map row_in items)

    -- an atom of these items, of which the first is item k
    abbrev IsOf : ℕ → List Item → AtomAt → Type 0
    IsOf k items a = ((a.row ≡ s) × (k ≤ a.item)) ⊎ ((u : ℕ) × (1 ≤ RowsOf items u) × Has m u a.row)

    of-more : (k : ℕ) (items : List Item) (first : Item) → ((u : ℕ) → RowsOf items u ≤ RowsOf (first ∷ items) u) → (a : AtomAt)
        → IsOf (suc k) items a → IsOf k (first ∷ items) a
    of-more k items first more a (inl own) = let le = own.1 in inl (own.0, omega arith)
    of-more k items first more a (inr inner) = let le = inner.1 in let grows = more inner.0 in inr (inner.0, omega arith, inner.2)

    atoms-of : (k : ℕ) (q : Token) (items : List Item) → Each (ItemOnce m) items
        → Each (IsOf k items) (atoms_of_items (contents_to d m) s k q items)
    atoms-of k q [] once = tt
    atoms-of k q (Atom height kind ∷ items) once = (
      inl (refl, omega arith),
      each-with (IsOf (suc k) items) (IsOf k (Atom height kind ∷ items)) _
          (of-more k items (Atom height kind) (λ u. omega arith)) (atoms-of (suc k) row_start items once.1),
    )
    atoms-of k q (Row u ∷ items) once =
        Each-append (IsOf k (Row u ∷ items)) ((contents_to d m).atoms u q)
        (atoms_of_items (contents_to d m) s (suc k) row_start items)
        (each-with (λ (a : AtomAt). Has m u a.row) (IsOf k (Row u ∷ items)) _ (λ a has. inr (u, own, has)) (once.0.stand q))
        (each-with (IsOf (suc k) items) (IsOf k (Row u ∷ items)) _ (of-more k items (Row u) more)
        (atoms-of (suc k) row_start items once.1))
      where
        own : 1 ≤ RowsOf (Row u ∷ items) u
        own = let one : RowsOf (Row u ∷ items) u ≡ suc (RowsOf items u) = count-self u (flat_map row_in items) in omega arith

        more : (v : ℕ) → RowsOf items v ≤ RowsOf (Row u ∷ items) v
        more v = let e : RowsOf (Row u ∷ items) v ≡ cond (u == v) 1 0 + RowsOf items v = count-cons v u (flat_map row_in items)
            in omega arith

    -- what is so of the rows of these items: each is there once, and stands in row s
    record Fine (items : List Item) : Type 0 where
      few : (u : ℕ) → u < length d.rows → RowsOf items u ≤ 1
      child : (u : ℕ) → 1 ≤ RowsOf items u → IsChild s u

    fine-rest : (first : Item) (items : List Item) → ((u : ℕ) → RowsOf items u ≤ RowsOf (first ∷ items) u) → Fine (first ∷ items)
        → Fine items
    fine-rest first items more fine = record {
      few = λ u known. let a = more u in let b = fine.few u known in omega arith;
      child = λ u some. fine.child u (let a = more u in omega arith);
    }

    not-own : (k : ℕ) (items : List Item) → Fine items → (b : AtomAt) → IsOf (suc k) items b
        → (record { row = s; item = k } ≡ b → ⊥)
    not-own k items fine b (inl own) same = let e : k ≡ b.item = ap (λ (a : AtomAt). a.item) same in let le = own.1 in omega arith
    not-own k items fine b (inr inner) same =
        let e : s ≡ b.row = ap (λ (a : AtomAt). a.row) same in
        let known = child-known s inner.0 lt (fine.child inner.0 inner.1) in
        let later = known.later in
        let from = (has-below m inner.0 b.row known.known inner.2).from in
        omega arith

    not-inner : (k u : ℕ) (items : List Item) → Fine (Row u ∷ items) → (a : AtomAt) → Has m u a.row → (b : AtomAt)
        → IsOf (suc k) items b → (a ≡ b → ⊥)
    not-inner k u items fine a has b of same = go of
      where
        rows : a.row ≡ b.row
        rows = ap (λ (x : AtomAt). x.row) same

        counts : (v : ℕ) → RowsOf (Row u ∷ items) v ≡ cond (u == v) 1 0 + RowsOf items v
        counts v = count-cons v u (flat_map row_in items)

        own : RowsOf (Row u ∷ items) u ≡ suc (RowsOf items u)
        own = count-self u (flat_map row_in items)

        child : IsChild s u
        child = fine.child u (let e = own in omega arith)

        known : Known s u
        known = child-known s u lt child

        go : IsOf (suc k) items b → ⊥
        go (inl at) =
            let from = (has-below m u a.row known.known has).from in
            let later = known.later in
            let e = rows in
            let f = at.0 in
            omega arith
        go (inr inner) =
            let other : IsChild s inner.0 = fine.child inner.0 (let e = counts inner.0 in let some = inner.1 in omega arith) in
            disjoint (suc b.row) m s u inner.0 b.row (omega arith) lt child other differ (subst (Has m u) rows has) inner.2
          where
            differ : u ≡ inner.0 → ⊥
            differ e =
                let P : ℕ → Type 0 = λ v. 1 ≤ RowsOf items v in
                let some : 1 ≤ RowsOf items u = subst P (sym e) inner.1 in
                let few = fine.few u known.known in
                let o = own in
                omega arith

    all-apart : (k : ℕ) (q : Token) (items : List Item) → Fine items → Each (ItemOnce m) items
        → Apart (atoms_of_items (contents_to d m) s k q items)
    all-apart k q [] fine once = tt
    all-apart k q (Atom height kind ∷ items) fine once =
        let rest : Fine items = fine-rest (Atom height kind) items (λ u. omega arith) fine in (
          each-with (IsOf (suc k) items) (λ b. record { row = s; item = k } ≢ b) _ (not-own k items rest)
              (atoms-of (suc k) row_start items once.1),
          all-apart (suc k) row_start items rest once.1,
        )
    all-apart k q (Row u ∷ items) fine once =
        let rest : Fine items = fine-rest (Row u) items
        (λ v. let e : RowsOf (Row u ∷ items) v ≡ cond (u == v) 1 0 + RowsOf items v = count-cons v u (flat_map row_in items)
        in omega arith) fine in
        apart-append ((contents_to d m).atoms u q) (atoms_of_items (contents_to d m) s (suc k) row_start items) (once.0.apart q)
        (all-apart (suc k) row_start items rest once.1)
        (each-with (λ (a : AtomAt). Has m u a.row)
        (λ a. Each (λ b. a ≢ b) (atoms_of_items (contents_to d m) s (suc k) row_start items)) _
        (λ a has. each-with (IsOf (suc k) items) (λ b. a ≢ b) _ (not-inner k u items fine a has)
        (atoms-of (suc k) row_start items once.1)) (once.0.stand q))

    fine-drop : (i : ℕ) → Fine (drop i (flow_in d s).items)
    fine-drop i = record {
      few = λ u known. let a = split-count u i (flow_in d s).items in let b =
          once-in-flow d sound (row_of d s).flow (sound.rows s no_row lt).flow u known in omega arith;
      child = λ u some. let a = split-count u i (flow_in d s).items in omega arith;
    }

    each-drop : (n : ℕ) (items : List Item) → Each (ItemOnce m) items → Each (ItemOnce m) (drop n items)
    each-drop zero items all = all
    each-drop (suc n) [] all = tt
    each-drop (suc n) (item ∷ items) all = each-drop n items all.1

    row-once : ((u : ℕ) → u < length d.rows → RowOnce m u) → RowOnce (suc m) s
    unfolding contents_to
    row-once inner =
        let each = items-once m s inner (flow_in d s).items (rows-within d sound s lt) in
        record {
          apart = λ q. all-apart (item_number q) (within q) (drop (item_number q) (flow_in d s).items) (fine-drop (item_number q))
              (each-drop (item_number q) (flow_in d s).items each);
          stand = λ q. each-with (IsOf (item_number q) (drop (item_number q) (flow_in d s).items))
              (λ (a : AtomAt). Has (suc m) s a.row) _ (in-row (item_number q))
              (atoms-of (item_number q) (within q) (drop (item_number q) (flow_in d s).items)
              (each-drop (item_number q) (flow_in d s).items each));
        }
      where
        in-row : (i : ℕ) (a : AtomAt) → IsOf i (drop i (flow_in d s).items) a → Has (suc m) s a.row
        in-row i a (inl own) = inl (sym own.0)
        in-row i a (inr inner) = inr (inner.0, (fine-drop i).child inner.0 inner.1, inner.2)

  all-once : (m s : ℕ) → s < length d.rows → RowOnce m s
  unfolding contents_to
  all-once zero s lt = record { apart = λ q. tt; stand = λ q. tt }
  all-once (suc m) s lt = row-once m s lt (λ u known. all-once m u known)

-- The atoms of a row differ.
pub atoms-differ : (d : FlowsData) → IsSound d → (r : ℕ) → r < length d.rows → (t : Token)
    → AllPairs (λ a b. a ≢ b) (atoms_from d r t)
unfolding atoms_from
atoms-differ d sound r lt t =
    apart-pairs ((contents_to d (suc (length d.rows))).atoms r t) ((all-once d sound (suc (length d.rows)) r lt).apart t)
