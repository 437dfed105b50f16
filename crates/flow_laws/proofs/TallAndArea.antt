-- No height fits that is below what an atom needs, nor one at which the columns can't hold the atoms.
use Rattle.std.proofs.Common.{◌≡◌, ℕ, zero, suc, ◌+◌, ◌-◌, ◌*◌, ◌<◌, ◌≤◌, Bool, true, false, cond, not, ◌&&◌, List, [], ◌∷◌, ◌++◌}
use Rattle.std.proofs.Common.{length, take, drop, get_or, Option, Some, None, refl, sym, subst, ◌∙◌, ap, arith, sum_by, ◌⊎◌, inl}
use Rattle.std.proofs.Common.{inr}
use Rattle.std.specs.Prelude.{nat_lt}
use Rattle.std.specs.List.{list_any, AllByRecursion as Each}
use Rattle.std.proofs.lemmas.Bool.Decides.{nat_tests}
use Rattle.std.proofs.lemmas.Bool.{cases_lt, cases_order}
use Rattle.std.proofs.lemmas.List.{drop_more, drop-drop, drop_all, get_or-drop}
use Rattle.std.proofs.lemmas.List.Sums.{sum_by-cons, sum_by-take-drop}
use Rattle.std.proofs.Math.Nat.{suc-mul}
use Rattle.flow_list.proofs.Fitting.{columns_by-step}
use Rattle.flow_list.specs.Data.{Flow, FlowsData, Item, Atom, Row}
use Rattle.flow_list.specs.Atoms.{IsAtom}
use Rattle.flow_data.specs.Flows.{row_of, flow_in, item_of, seam_of, no_item, no_flow, no_row, atom_height}
use Rattle.flow_data.specs.Soundness.{IsSound, IsSoundFlow}
use Rattle.flow_list.specs.Strip.{Strip, lay_all}
use Rattle.flow_list.specs.Tokens.{Token, row_start, item_number, within, is_end, IsPlaceBefore, IsPlace}
use Rattle.flow_list.specs.Column.{Column, Inner, Step, Place, Cut, cut, longer, step_at, steps, strip_behind, is_forced}
use Rattle.flow_list.specs.Column.{start_strip, steps_from, seams_before, seams_between, inside_place, room, last_place, no_place}
use Rattle.flow_list.specs.Column.{column, column_over, column_up_to, avoids_at, loose_need, Filled, inside, alone_place}
use Rattle.flow_list.specs.Column.{whole_place, is_cut, best, choose, fill_in_room}
use Rattle.flow_list.specs.Rows.{columns, end_of, fits, fails, most_columns, all_rows}
use Rattle.flow_list.proofs.ColumnParts.{stopped-each}
use Rattle.flow_laws.specs.TallAndArea.{TallAndAreaReject}
use Rattle.flow_laws.proofs.Needs.{IsGoodStep, AreGoodSteps, column-steps}
use Rattle.flow_laws.proofs.Places.{in-items, before-end, at-end}
use Rattle.flow_laws.proofs.RowsAdvance.{by-zero, column-is-later}
use Rattle.flow_laws.proofs.RowsStay.{fails-fine}

-- the heights of the atoms among n items from item k on
heights : Flow → ℕ → ℕ → ℕ
heights f k n = sum_by atom_height (take n (drop k f.items))

heights-none : (f : Flow) (k : ℕ) → heights f k 0 ≡ 0
unfolding heights
heights-none f k = refl

heights-more : (f : Flow) (k n : ℕ) → k < length f.items → heights f k (suc n) ≡ atom_height (item_of f k) + heights f (k + 1) n
unfolding heights
heights-more f k n lt = rw (drop_more f.items k no_item lt)
    (sum_by-cons atom_height (item_of f k) (take n (drop (k + 1) f.items)))

take-sum-le : (n m : ℕ) (xs : List Item) → n ≤ m → sum_by atom_height (take n xs) ≤ sum_by atom_height (take m xs)
take-sum-le zero m xs le = omega arith
take-sum-le (suc n) zero xs le = absurd (omega arith)
take-sum-le (suc n) (suc m) [] le = omega arith
take-sum-le (suc n) (suc m) (x ∷ xs) le =
    omega (arith, take-sum-le n m xs (omega arith), sum_by-cons atom_height x (take n xs), sum_by-cons atom_height x (take m xs))

heights-le : (f : Flow) (k n m : ℕ) → n ≤ m → heights f k n ≤ heights f k m
unfolding heights
heights-le f k n m le = take-sum-le n m (drop k f.items) le

heights-split : (f : Flow) (i e : ℕ) → i ≤ e
    → sum_by atom_height (drop i f.items) ≡ heights f i (e - i) + sum_by atom_height (drop e f.items)
unfolding heights
heights-split f i e le =
    let join : drop (e - i) (drop i f.items) ≡ drop e f.items = drop-drop (e - i) i f.items
    ∙ ap (λ n. drop n f.items) (omega arith) in
    sym (sum_by-take-drop atom_height (drop i f.items) (e - i))
    ∙ ap (λ xs. sum_by atom_height (take (e - i) (drop i f.items)) + sum_by atom_height xs) join

get_or-last : (m : ℕ) (xs : List Item)
    → sum_by atom_height (take (suc m) xs) ≤ sum_by atom_height (take m xs) + atom_height (get_or xs m no_item)
get_or-last zero [] = omega arith
get_or-last (suc m) [] = omega arith
get_or-last zero (x ∷ xs) = omega (arith, sum_by-cons atom_height x [])
get_or-last (suc m) (x ∷ xs) =
    omega (arith, get_or-last m xs, sum_by-cons atom_height x (take (suc m) xs), sum_by-cons atom_height x (take m xs))

heights-last : (f : Flow) (k n : ℕ) → heights f k (suc n) ≤ heights f k n + atom_height (item_of f (k + n))
unfolding heights
heights-last f k n = let e = get_or-last n (drop k f.items) in let e' = rw (get_or-drop k f.items n no_item) at e in e'

not-high : (item : Item) → (IsAtom item → ⊥) → atom_height item ≡ 0
not-high (Atom height kind) none = absurd (none tt)
not-high (Row r) none = refl

module _ (inner : Inner) (d : FlowsData) (f : Flow) (sound : IsSoundFlow d f) (h : ℕ) where
  -- ---- the items before the stop

  -- of these n items from item k on, after atoms that are base high, no atom needs more than h after an unforced break, and the
  -- atoms are no higher than h together
  record Fit (k base n : ℕ) : Type 0 where
    loose : (m : ℕ) → k ≤ m → m < k + n → IsAtom (item_of f m) → loose_need inner d f m ≤ h
    high : 0 < n → base + heights f k n ≤ h

  fit-none : (k base : ℕ) → Fit k base 0
  fit-none k base = record { loose = λ m a b atom. absurd (omega arith); high = λ some. absurd (omega arith) }

  fit-cons : (k base prev n : ℕ) (s : Step) → k < length f.items → s.need ≤ h → IsGoodStep inner d f sound k base prev s
      → Fit (k + 1) (base + atom_height (item_of f k)) n → Fit k base (suc n)
  fit-cons k base prev n s lt le good rest = record {
    loose = λ m a b atom. which m a b atom (cases_order m k);
    high = λ some. enough (cases_lt 0 n);
  }
    where
      which : (m : ℕ) → k ≤ m → m < k + suc n → IsAtom (item_of f m) → (m ≡ k) ⊎ ((m < k) ⊎ (k < m)) → loose_need inner d f m ≤ h
      which m a b atom (inl same) =
          let here : IsAtom (item_of f k) = rw same at atom in
          let need = good.loose here in
          rw same (omega arith)
      which m a b atom (inr (inl low)) = absurd (omega arith)
      which m a b atom (inr (inr later)) = rest.loose m (omega arith) (omega arith) atom

      enough : (0 < n) ⊎ (n ≤ 0) → base + heights f k (suc n) ≤ h
      enough (inl some) = let r = rest.high some in let e = heights-more f k n lt in omega arith
      enough (inr none) =
          let zero_more : n ≡ 0 = omega arith in
          let holds = good.holds in
          let e = heights-more f k n lt in
          let e' = rw zero_more at e in
          let nothing = heights-none f (k + 1) in
          rw zero_more (omega arith)

  cut-fits : (k base prev : ℕ) (ss : List Step) → k + length ss ≤ length f.items → AreGoodSteps inner d f sound k base prev ss
      → Fit k base (length (cut h ss).before)
  cut-fits k base prev [] le good = fit-none k base
  cut-fits k base prev (s ∷ ss) le good =
      go (nat_lt h s.need) refl (cut-fits (k + 1) (base + atom_height (item_of f k)) s.need ss (omega arith) good.1)
    where
      go : (b : Bool) → nat_lt h s.need ≡ b → Fit (k + 1) (base + atom_height (item_of f k)) (length (cut h ss).before)
          → Fit k base (length (cond b (record { before = []; stop = Some s }) (longer s (cut h ss))).before)
      go true e rest = fit-none k base
      go false e rest = fit-cons k base prev (length (cut h ss).before) s (omega arith) (grind (arith, nat_tests)) good.0 rest

  -- ---- where the column ends

  -- after n items from item i on at most, or after one more, which is no atom
  abbrev EndsBy : ℕ → ℕ → Token → Type 0
  EndsBy i n t = (item_number t ≤ i + n) ⊎ ((item_number t ≡ i + n + 1) × (IsAtom (item_of f (i + n)) → ⊥))

  abbrev PlaceEndsBy : ℕ → ℕ → Place → Type 0
  PlaceEndsBy i n p = p.overflow ≡ false → EndsBy i n p.end

  -- the numbers of the items of good steps follow one another
  seams-end : (i n need k base prev : ℕ) (ss : List Step) → AreGoodSteps inner d f sound k base prev ss
      → k + length ss ≤ i + n + 1 → Each (PlaceEndsBy i n) (seams_before need ss)
  seams-end i n need k base prev [] good le = tt
  seams-end i n need k base prev (s ∷ ss) good le = (
    λ fine. inl (let e = good.0.item in omega arith),
    seams-end i n s.need (k + 1) (base + atom_height (item_of f k)) s.need ss good.1 (omega arith),
  )

  between-end : (n k base prev : ℕ) (ss : List Step) → AreGoodSteps inner d f sound k base prev ss → k + length ss ≤ k + n + 1
      → Each (PlaceEndsBy k n) (seams_between ss)
  between-end n k base prev [] good le = tt
  between-end n k base prev (s ∷ ss) good le = seams-end k n s.need (k + 1) (base + atom_height (item_of f k)) s.need ss good.1
      (omega arith)

  inside-ends : (i n : ℕ) (avoids : Bool) (s : Step) (filled : Filled) → s.item ≡ i + n → (IsAtom (item_of f (i + n)) → ⊥)
      → EndsBy i n (inside_place avoids s (room s h) filled).end
  inside-ends i n avoids s filled is no_atom = go filled.at_end
    where
      go : (b : Bool) → EndsBy i n (cond b ((s.item + 1) ∷ []) (s.item ∷ filled.end))
      go true = inr (omega arith, no_atom)
      go false = inl (omega arith)

  -- the stop is the item after those before it
  abbrev CutGood : ℕ → ℕ → ℕ → Cut → Option Step → Type 0
  CutGood k base prev u None = AreGoodSteps inner d f sound k base prev u.before
  CutGood k base prev u (Some s) = AreGoodSteps inner d f sound k base prev (u.before ++ s ∷ []) × (s.item ≡ k + length u.before)
      × (IsAtom (item_of f s.item) → s.row ≡ None)

  cut-good : (k base prev : ℕ) (ss : List Step) → AreGoodSteps inner d f sound k base prev ss
      → CutGood k base prev (cut h ss) (cut h ss).stop
  cut-good k base prev [] good = tt
  cut-good k base prev (s ∷ ss) good = go (nat_lt h s.need) (cut-good (k + 1) (base + atom_height (item_of f k)) s.need ss good.1)
    where
      more : (o : Option Step) → CutGood (k + 1) (base + atom_height (item_of f k)) s.need (cut h ss) o
          → CutGood k base prev (longer s (cut h ss)) o
      more None u = (good.0, u)
      more (Some s') u = ((good.0, u.0), (let e = u.1 in omega arith), u.2)

      go : (b : Bool) → CutGood (k + 1) (base + atom_height (item_of f k)) s.need (cut h ss) (cut h ss).stop
          → CutGood k base prev (cond b (record { before = []; stop = Some s }) (longer s (cut h ss)))
          (cond b (record { before = []; stop = Some s }) (longer s (cut h ss))).stop
      go true u = let is = good.0.item in ((good.0, tt), omega arith, λ atom. good.0.atom_row (rw is at atom))
      go false u = more (cut h ss).stop u

  last-ends : (p : Place) (k base prev i n : ℕ) (ss : List Step) → AreGoodSteps inner d f sound k base prev ss
      → k + length ss ≤ i + n → item_number p.end ≤ i + n → item_number (last_place p ss).end ≤ i + n
  last-ends p k base prev i n [] good le e = e
  last-ends p k base prev i n (s ∷ ss) good le e =
      last-ends (record { level = 0; end = (s.item + 1) ∷ []; extent = s.need; overflow = false }) (k + 1)
      (base + atom_height (item_of f k)) s.need i n ss good.1 (omega arith) (let is = good.0.item in omega arith)

  up_to-ends : (avoids : ℕ → Bool) (i : ℕ) (u : Cut) (stop : Option Step) → CutGood i 0 0 u stop
      → (column_up_to inner avoids h u.before stop).overflow ≡ false
      → EndsBy i (length u.before) (column_up_to inner avoids h u.before stop).end
  up_to-ends avoids i u None good fine =
      inl (last-ends no_place i 0 0 i (length u.before) u.before good (omega arith) (omega arith))
  up_to-ends avoids i u (Some s) good fine =
      stopped-each (PlaceEndsBy i (length u.before)) inner (avoids s.item) h s u.before s.row
      (between-end (length u.before) i 0 0 (u.before ++ s ∷ []) good.0 (one-more u.before s)) (λ which whole. cc)
      (λ row over is low whole. inside-ends i (length u.before) (avoids s.item) s (inner.fill row.0 row.1 (room s h)) good.1
      (λ atom. let here : IsAtom (item_of f s.item) = rw good.1 atom in let none = good.2 here in cc)) fine
    where
      one-more : (xs : List Step) (s : Step) → i + length (xs ++ s ∷ []) ≤ i + length xs + 1
      one-more [] s = omega arith
      one-more (x ∷ xs) s = let e = one-more xs s in omega arith

  -- ---- a column that doesn't overflow

  -- no atom before its end needs more than h after an unforced break, and the atoms before its end are no higher than h together
  record ColumnHolds (t e : Token) : Type 0 where
    loose : (m : ℕ) → item_number t ≤ m → m < item_number e → IsAtom (item_of f m) → loose_need inner d f m ≤ h
    high : item_number t ≤ item_number e → heights f (item_number t) (item_number e - item_number t) ≤ h

  holds-by : (t e : Token) (n : ℕ) → Fit (item_number t) 0 n → EndsBy (item_number t) n e → ColumnHolds t e
  holds-by t e n fit (inl within) = record {
    loose = λ m a b atom. fit.loose m a (omega arith) atom;
    high = λ later. which (cases_lt 0 (item_number e - item_number t));
  }
    where
      which : (0 < item_number e - item_number t) ⊎ (item_number e - item_number t ≤ 0)
          → heights f (item_number t) (item_number e - item_number t) ≤ h
      which (inl some) = let a = fit.high (omega arith)
          in let b = heights-le f (item_number t) (item_number e - item_number t) n (omega arith) in omega arith
      which (inr none) = let z : item_number e - item_number t ≡ 0 = omega arith
          in rw z (let b = heights-none f (item_number t) in omega arith)
  holds-by t e n fit (inr behind) = record {
    loose = λ m a b atom. which m a b atom (cases_lt m (item_number t + n));
    high = λ later. let z : item_number e - item_number t ≡ suc n = let is = behind.0 in omega arith
        in rw z (let a = enough (cases_lt 0 n) in let b = heights-last f (item_number t) n
        in let c = not-high (item_of f (item_number t + n)) behind.1 in omega arith);
  }
    where
      which : (m : ℕ) → item_number t ≤ m → m < item_number e → IsAtom (item_of f m)
          → (m < item_number t + n) ⊎ (item_number t + n ≤ m) → loose_need inner d f m ≤ h
      which m a b atom (inl low) = fit.loose m a low atom
      which m a b atom (inr at) = let is = behind.0 in let same : m ≡ item_number t + n = omega arith
          in absurd (behind.1 (rw same at atom))

      enough : (0 < n) ⊎ (n ≤ 0) → heights f (item_number t) n ≤ h
      enough (inl some) = let a = fit.high some in omega arith
      enough (inr none) = let z : n ≡ 0 = omega arith in rw z (let b = heights-none f (item_number t) in omega arith)

  over-holds : (avoids : ℕ → Bool) (t : Token) (ss : List Step) → item_number t + length ss ≤ length f.items
      → AreGoodSteps inner d f sound (item_number t) 0 0 ss → (column_over inner avoids h ss).overflow ≡ false →
      ColumnHolds t (column_over inner avoids h ss).end
  over-holds avoids t ss le good fine =
      holds-by t (column_over inner avoids h ss).end (length (cut h ss).before) (cut-fits (item_number t) 0 0 ss le good)
      (up_to-ends avoids (item_number t) (cut h ss) (cut h ss).stop (cut-good (item_number t) 0 0 ss good) fine)

  steps-count : (s : Strip) (k : ℕ) (q : Token) (n : ℕ) → length (steps inner d f s k q n) ≤ n
  unfolding steps
  steps-count s k q zero = omega arith
  steps-count s k q (suc n) = go (is_forced (seam_of f (k + 1)).level)
      (steps-count (lay_all (strip_behind inner f s k q) (seam_of f (k + 1)).head) (k + 1) row_start n)
    where
      more : List Step
      more = steps inner d f (lay_all (strip_behind inner f s k q) (seam_of f (k + 1)).head) (k + 1) row_start n

      go : (b : Bool) → length more ≤ n → length (step_at inner d f s k q ∷ elim b [ true ↦ [] | false ↦ more ]) ≤ suc n
      go true e = omega arith
      go false e = omega arith

  column-holds : (t : Token) → IsPlaceBefore d f t → (column inner d f t h).overflow ≡ false
      → ColumnHolds t (column inner d f t h).end
  unfolding column
  column-holds t place fine =
      let lt = in-items d f t place in
      let count = steps-count (start_strip d f t) (item_number t) (within t) (length f.items - item_number t) in
      over-holds (avoids_at d f) t (steps_from inner d f t) (omega arith) (column-steps inner d f sound t place) fine

-- ---- columns that reach the end

module _ (d : FlowsData) (sound : IsSound d) (r : ℕ) (lt : r < length d.rows) where
  flow_sound : IsSoundFlow d (flow_in d r)
  flow_sound = let row = sound.rows r no_row lt in sound.flows (row_of d r).flow no_flow row.flow

  abbrev from : ℕ → Token → ℕ → List Column
  from n t h = columns (all_rows d) d (flow_in d r) n t h

  abbrev after : Token → ℕ → Token
  after t h = (column (all_rows d) d (flow_in d r) t h).end

  fine-first : (c : Column) (cs : List Column) → list_any fails (c ∷ cs) ≡ false → (fails c ≡ false) × (list_any fails cs ≡ false)
  fine-first c cs e = go (fails c) refl
    where
      go : (b : Bool) → fails c ≡ b → (fails c ≡ false) × (list_any fails cs ≡ false)
      go true k = let x : true ≡ false = rw k at e in cc
      go false k = (k, rw k at e)

  end-behind : (t : Token) → is_end (flow_in d r) t ≡ true → length (flow_in d r).items ≤ item_number t
  end-behind t e = grind (arith, nat_tests)

  -- the atoms that columns hold are no higher than the columns together, and none of them needs more than they are high
  record ColumnsHold (n h : ℕ) (t : Token) : Type 0 where
    loose : (m : ℕ) → item_number t ≤ m → m < length (flow_in d r).items → IsAtom (item_of (flow_in d r) m)
        → loose_need (all_rows d) d (flow_in d r) m ≤ h
    high : sum_by atom_height (drop (item_number t) (flow_in d r).items) ≤ n * h

  hold-end : (n h : ℕ) (t : Token) → is_end (flow_in d r) t ≡ true → ColumnsHold n h t
  hold-end n h t e =
      let behind = end-behind t e in
      let none : drop (item_number t) (flow_in d r).items ≡ [] = drop_all (item_number t) (flow_in d r).items behind in
      record { loose = λ m a b atom. absurd (omega arith); high = rw none (omega arith) }

  hold-cons : (n h : ℕ) (t u : Token) → item_number t ≤ length (flow_in d r).items
      → ColumnHolds (all_rows d) d (flow_in d r) flow_sound h t u → ColumnsHold n h u → ColumnsHold (suc n) h t
  hold-cons n h t u in_flow here later = record {
    loose = λ m a b atom. which m a b atom (cases_lt m (item_number u));
    high = enough (cases_lt (item_number u) (item_number t));
  }
    where
      which : (m : ℕ) → item_number t ≤ m → m < length (flow_in d r).items → IsAtom (item_of (flow_in d r) m)
          → (m < item_number u) ⊎ (item_number u ≤ m) → loose_need (all_rows d) d (flow_in d r) m ≤ h
      which m a b atom (inl low) = here.loose m a low atom
      which m a b atom (inr at) = later.loose m at b atom

      split : item_number t ≤ item_number u
          → sum_by atom_height (drop (item_number t) (flow_in d r).items) ≡ heights (flow_in d r) (item_number t)
          (item_number u - item_number t) + sum_by atom_height (drop (item_number u) (flow_in d r).items)
      split le = heights-split (flow_in d r) (item_number t) (item_number u) le

      enough : (item_number u < item_number t) ⊎ (item_number t ≤ item_number u)
          → sum_by atom_height (drop (item_number t) (flow_in d r).items) ≤ suc n * h
      enough (inl back) =
          let e = heights-split (flow_in d r) (item_number u) (item_number t) (omega arith) in
          let high = later.high in
          rw suc-mul (omega arith)
      enough (inr le) =
          let e = split le in
          let a = here.high le in
          let high = later.high in
          rw suc-mul (omega arith)

  columns-hold : (n h : ℕ) (t : Token) → IsPlaceBefore d (flow_in d r) t → is_end (flow_in d r) (end_of t (from n t h)) ≡ true
      → list_any fails (from n t h) ≡ false → ColumnsHold n h t
  columns-hold zero h t place ends fine =
      let e = before-end d (flow_in d r) t place in
      let Q : List Column → Type 0 = λ cs. is_end (flow_in d r) (end_of t cs) ≡ true in
      let e' : is_end (flow_in d r) t ≡ true = subst Q (by-zero (λ q. column (all_rows d) d (flow_in d r) q h) (flow_in d r) t)
      ends in
      absurd cc
  columns-hold (suc n) h t place ends fine =
      let cons = columns_by-step (λ q. column (all_rows d) d (flow_in d r) q h) (flow_in d r) n t
      (before-end d (flow_in d r) t place) in
      let Q : List Column → Type 0 = λ cs. is_end (flow_in d r) (end_of t cs) ≡ true in
      let P : List Column → Type 0 = λ cs. list_any fails cs ≡ false in
      let first = fine-first (column (all_rows d) d (flow_in d r) t h) (from n (after t h) h) (subst P cons fine) in
      let here = column-holds (all_rows d) d (flow_in d r) flow_sound h t place
      (fails-fine (column (all_rows d) d (flow_in d r) t h) first.0) in
      let start = in-items d (flow_in d r) t place in
      hold-cons n h t (after t h) (omega arith) here
      (go (λ p e k. columns-hold n h (after t h) p e k) (column-is-later d sound r lt t (Some h) place).place
      (subst Q cons ends) first.1)
    where
      go : (IsPlaceBefore d (flow_in d r) (after t h) → is_end (flow_in d r) (end_of (after t h) (from n (after t h) h)) ≡ true
          → list_any fails (from n (after t h) h) ≡ false → ColumnsHold n h (after t h)) →
          ((after t h ≡ length (flow_in d r).items ∷ []) ⊎ IsPlaceBefore d (flow_in d r) (after t h))
          → is_end (flow_in d r) (end_of (after t h) (from n (after t h) h)) ≡ true
          → list_any fails (from n (after t h) h) ≡ false → ColumnsHold n h (after t h)
      go again (inl e) ends fine = hold-end n h (after t h) (at-end (flow_in d r) (after t h) e)
      go again (inr p) ends fine = again p ends fine

  -- ---- the law

  and-parts : (a b : Bool) → (a && not b) ≡ true → (a ≡ true) × (b ≡ false)
  and-parts true true e = absurd cc
  and-parts true false e = (refl, refl)
  and-parts false b e = absurd cc

  fits-hold : (q : Token) (h : ℕ) → IsPlaceBefore d (flow_in d r) q → fits (all_rows d) d r q h ≡ true
      → ColumnsHold (most_columns (row_of d r).n (flow_in d r) q) h q
  unfolding fits
  fits-hold q h place e =
      let parts = and-parts (is_end (flow_in d r) (end_of q (from (most_columns (row_of d r).n (flow_in d r) q) q h)))
      (list_any fails (from (most_columns (row_of d r).n (flow_in d r) q) q h)) e in
      columns-hold (most_columns (row_of d r).n (flow_in d r) q) h q place parts.0 parts.1

  not-true : (b : Bool) → (b ≡ true → ⊥) → b ≡ false
  not-true true n = absurd (n refl)
  not-true false n = refl

  pub tall-and-area : (q : Token) → IsPlaceBefore d (flow_in d r) q → TallAndAreaReject d r q
  tall-and-area q place = record {
    tall_rejects = λ k h a b atom low. not-true (fits (all_rows d) d r q h) (λ e. let l = (fits-hold q h place e).loose k a b atom
        in absurd (omega arith));
    area_rejects = λ h many. not-true (fits (all_rows d) d r q h) (λ e. let l = (fits-hold q h place e).high
        in absurd (omega arith));
  }

  -- at the end no atom is left
  pub tall-and-area-anywhere : (q : Token) → IsPlace d (flow_in d r) q → TallAndAreaReject d r q
  tall-and-area-anywhere q (inl end) =
      let none = at-end (flow_in d r) q end in
      record {
        tall_rejects = λ k h a b atom low. let l = (hold-end 0 h q none).loose k a b atom in absurd (omega arith);
        area_rejects = λ h many. let l = (hold-end 0 h q none).high in absurd (omega arith);
      }
  tall-and-area-anywhere q (inr before) = tall-and-area q before
