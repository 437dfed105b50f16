-- All that stands in a row, with what stands in the rows within it, is no higher than all flows together: each flow belongs to
-- one row or stack, and each row to one item.
use Rattle.std.proofs.Common.{◌≡◌, ℕ, zero, suc, ◌+◌, ◌-◌, ◌<◌, ◌≤◌, ◌==◌, ◌≢◌, Bool, true, false, cond, List, [], ◌∷◌, ◌++◌, map}
use Rattle.std.proofs.Common.{length, get_or, refl, subst, ◌∙◌, ap, arith, sum_by, ◌⊎◌, inl, inr}
use Rattle.std.specs.Prelude.{All}
use Rattle.std.specs.List.{flat_map}
use Rattle.std.proofs.lemmas.Bool.Decides.{nat_tests}
use Rattle.std.proofs.lemmas.Bool.{cases_lt}
use Rattle.std.proofs.lemmas.List.Sums.{sum_by-cons, sum_by-append, sum_by-le-sum_by}
use Rattle.flow_list.specs.Data.{Flow, FlowsData, RowInfo, Stack}
use Rattle.flow_data.specs.Flows.{row_of, flow_of, flow_in, rows_in, no_flow, no_row}
use Rattle.flow_data.specs.Soundness.{IsSound, NestsAtMost, count_of, flow_owners, flow_height}
use Rattle.flow_data.proofs.OpenBoxes.{sum-less}
use Rattle.flow_data.proofs.Counts.{count-cons, count-yes, count-no}
use Rattle.flow_laws.proofs.SoundRows.{good-rows, nests-by-number}

-- ---- sums

sum-same : (g h : ℕ → ℕ) (xs : List ℕ) → All (λ x. g x ≡ h x) xs → sum_by g xs ≡ sum_by h xs
sum-same g h [] same = refl
sum-same g h (x ∷ xs) same = let first = same 0 x (omega arith)
    in let rest = sum-same g h xs (λ k e lt. same (suc k) e (omega arith))
    in omega (arith, sum_by-cons g x xs, sum_by-cons h x xs)

pub sum-map : {X : Type 0} (g : ℕ → ℕ) (h : X → ℕ) (xs : List X) → sum_by g (map h xs) ≡ sum_by (λ x. g (h x)) xs
sum-map g h [] = refl
sum-map g h (x ∷ xs) = omega (arith, sum-map g h xs, sum_by-cons g (h x) (map h xs), sum_by-cons (λ x. g (h x)) x xs)

pub sum-flat : {X : Type 0} (g : ℕ → ℕ) (f : X → List ℕ) (xs : List X)
    → sum_by g (flat_map f xs) ≡ sum_by (λ x. sum_by g (f x)) xs
sum-flat g f [] = refl
sum-flat g f (x ∷ xs) = omega
    (arith, sum-flat g f xs, sum_by-append g (f x) (flat_map f xs), sum_by-cons (λ x. sum_by g (f x)) x xs)

pub sum-both : (g h : ℕ → ℕ) (xs : List ℕ) → sum_by (λ x. g x + h x) xs ≡ sum_by g xs + sum_by h xs
sum-both g h [] = refl
sum-both g h (x ∷ xs) = omega (arith, sum-both g h xs, sum_by-cons (λ x. g x + h x) x xs, sum_by-cons g x xs, sum_by-cons h x xs)

-- ---- numbers from k on

-- the m numbers from k on
count_up : ℕ → ℕ → List ℕ
count_up k zero = []
count_up k (suc m) = k ∷ count_up (suc k) m

pub up : (ℕ → ℕ) → ℕ → ℕ → ℕ
up g k m = sum_by g (count_up k m)

up-more : (g : ℕ → ℕ) (k m : ℕ) → up g k (suc m) ≡ g k + up g (suc k) m
unfolding up count_up
up-more g k m = sum_by-cons g k (count_up (suc k) m)

pub up-both : (g h : ℕ → ℕ) (k m : ℕ) → up (λ i. g i + h i) k m ≡ up g k m + up h k m
unfolding up
up-both g h k m = sum-both g h (count_up k m)

pub up-below : (g h : ℕ → ℕ) (k m : ℕ) → ((i : ℕ) → g i ≤ h i) → up g k m ≤ up h k m
unfolding up
up-below g h k m below = sum_by-le-sum_by g h (count_up k m) below

up-from-start : (g : ℕ → ℕ) (k m : ℕ) → up g k m ≤ up g 0 (k + m)
up-from-start g zero m = let e : 0 + m ≡ m = omega arith in rw e (omega arith)
up-from-start g (suc k) m =
    let later = up-from-start g k (suc m) in
    let e : k + suc m ≡ suc k + m = omega arith in
    let later' = rw e at later in
    omega (arith, up-more g k m)

pub up-list : {X : Type 0} (g : ℕ → ℕ) (h : X → ℕ) (d : X) (k : ℕ) (xs : List X)
    → ((i : ℕ) → i < length xs → g (k + i) ≡ h (get_or xs i d)) → up g k (length xs) ≡ sum_by h xs
unfolding up count_up
up-list g h d k [] same = refl
up-list g h d k (x ∷ xs) same =
    let first : g k ≡ h x = let e : k + 0 ≡ k = omega arith in rw e at (same 0 (omega arith)) in
    let rest = up-list g h d (suc k) xs (λ i lt. let e : suc k + i ≡ k + suc i = omega arith
    in rw e (same (suc i) (omega arith))) in
    omega (arith, sum_by-cons g k (count_up (suc k) (length xs)), sum_by-cons h x xs)

count-up-low : (n k m : ℕ) → n < k → count_of n (count_up k m) ≡ 0
unfolding count_up
count-up-low n k zero lt = refl
count-up-low n k (suc m) lt = let rest = count-up-low n (suc k) m (omega arith) in let c = count-cons n k (count_up (suc k) m)
    in grind (arith, nat_tests)

count-up-once : (n k m : ℕ) → count_of n (count_up k m) ≤ 1
unfolding count_up
count-up-once n k zero = omega arith
count-up-once n k (suc m) = go (k == n) refl (count-up-once n (suc k) m)
  where
    go : (b : Bool) → (k == n) ≡ b → count_of n (count_up (suc k) m) ≤ 1 → count_of n (k ∷ count_up (suc k) m) ≤ 1
    go true e rest = let same : k ≡ n = grind (arith, nat_tests) in let z = count-up-low n (suc k) m (omega arith)
        in let c = count-yes n k (count_up (suc k) m) e in omega arith
    go false e rest = let c = count-no n k (count_up (suc k) m) e in omega arith

count-up-in : (n k m : ℕ) → k ≤ n → n < k + m → count_of n (count_up k m) ≡ 1
unfolding count_up
count-up-in n k zero le lt = absurd (omega arith)
count-up-in n k (suc m) le lt = go (k == n) refl (λ a b. count-up-in n (suc k) m a b)
  where
    go : (b : Bool) → (k == n) ≡ b → (suc k ≤ n → n < suc k + m → count_of n (count_up (suc k) m) ≡ 1)
        → count_of n (k ∷ count_up (suc k) m) ≡ 1
    go true e rest = let same : k ≡ n = grind (arith, nat_tests) in let z = count-up-low n (suc k) m (omega arith)
        in let c = count-yes n k (count_up (suc k) m) e in omega arith
    go false e rest = let other : k ≢ n = grind (arith, nat_tests) in let r = rest (omega arith) (omega arith)
        in let c = count-no n k (count_up (suc k) m) e in omega arith

-- each of these numbers is at least low and below high
unfoldable pub AllIn : ℕ → ℕ → List ℕ → Type 0
AllIn low high [] = Unit {0}
AllIn low high (x ∷ xs) = (low ≤ x) × (x < high) × AllIn low high xs

pub AllIn-append : (low high : ℕ) (xs ys : List ℕ) → AllIn low high xs → AllIn low high ys → AllIn low high (xs ++ ys)
unfolding AllIn
AllIn-append low high [] ys a b = b
AllIn-append low high (x ∷ xs) ys a b = (a.0, a.1, AllIn-append low high xs ys a.2 b)

pub AllIn-all : (low high : ℕ) (xs : List ℕ) → All (λ x. (low ≤ x) × (x < high)) xs → AllIn low high xs
unfolding AllIn
AllIn-all low high [] all = tt
AllIn-all low high (x ∷ xs) all = let f = all 0 x (omega arith)
    in (f.0, f.1, AllIn-all low high xs (λ k e lt. all (suc k) e (omega arith)))

count-none : (n low high : ℕ) (xs : List ℕ) → AllIn low high xs → ((n < low) ⊎ (high ≤ n)) → count_of n xs ≡ 0
unfolding AllIn
count-none n low high [] all out = refl
count-none n low high (x ∷ xs) all out =
    let rest = count-none n low high xs all.2 out in
    let a = all.0 in
    let b = all.1 in
    let other : x ≢ n = λ e. which e out in
    let no_same : (x == n) ≡ false = grind (arith, nat_tests) in
    let c = count-no n x xs no_same in
    omega arith
  where
    which : x ≡ n → ((n < low) ⊎ (high ≤ n)) → ⊥
    which e (inl l) = let a = all.0 in omega arith
    which e (inr g) = let b = all.1 in omega arith

-- each number of a list without doubles below high is counted once from low on
pub within-up : (g : ℕ → ℕ) (low m : ℕ) (es : List ℕ) → AllIn low (low + m) es → ((n : ℕ) → n < low + m → count_of n es ≤ 1)
    → sum_by g es ≤ up g low m
unfolding up
within-up g low m es all once =
    let e = sum-less g es (count_up low m) (λ n. within n (cases_lt n low) (cases_lt n (low + m))) (λ n. count-up-once n low m)
    in omega arith
  where
    within : (n : ℕ) → (n < low) ⊎ (low ≤ n) → (n < low + m) ⊎ (low + m ≤ n) → count_of n es ≤ count_of n (count_up low m)
    within n (inl l) b = let z = count-none n low (low + m) es all (inl l) in omega arith
    within n (inr g) (inl lt) = let o = once n lt in let i = count-up-in n low m g lt in omega arith
    within n (inr g) (inr ge) = let z = count-none n low (low + m) es all (inr ge) in omega arith

count-up-high : (n k m : ℕ) → k + m ≤ n → count_of n (count_up k m) ≡ 0
unfolding count_up
count-up-high n k zero le = refl
count-up-high n k (suc m) le = let rest = count-up-high n (suc k) m (omega arith) in let c = count-cons n k (count_up (suc k) m)
    in grind (arith, nat_tests)

-- each number from low on is no more often counted than in a list that has each once
pub up-within : (g : ℕ → ℕ) (low m : ℕ) (xs : List ℕ) → AllIn low (low + m) xs → ((n : ℕ) → n < low + m → count_of n xs ≡ 1)
    → up g low m ≤ sum_by g xs
unfolding up
up-within g low m xs all each =
    let e = sum-less g (count_up low m) xs (λ n. within n (cases_lt n (low + m))) (λ n. once n (cases_lt n (low + m)))
    in omega arith
  where
    within : (n : ℕ) → (n < low + m) ⊎ (low + m ≤ n) → count_of n (count_up low m) ≤ count_of n xs
    within n (inl lt) = let o = each n lt in let u = count-up-once n low m in omega arith
    within n (inr ge) = let z = count-up-high n low m ge in omega arith

    once : (n : ℕ) → (n < low + m) ⊎ (low + m ≤ n) → count_of n xs ≤ 1
    once n (inl lt) = let o = each n lt in omega arith
    once n (inr ge) = let z = count-none n low (low + m) xs all (inr ge) in omega arith

-- ---- totals

module _ (d : FlowsData) (weight : ℕ → ℕ) where
  -- the weight of flow f, with those of the flows of the rows within it, n flows deep
  pub total_within : ℕ → ℕ → ℕ
  total_within zero f = 0
  total_within (suc n) f = weight f + sum_by (λ r. total_within n (row_of d r).flow) (rows_in (flow_of d f))

  -- the same of row r
  abbrev pub row_total : ℕ → ℕ → ℕ
  row_total n r = total_within n (row_of d r).flow

  pub total-more : (n f : ℕ) → total_within (suc n) f ≡ weight f + sum_by (row_total n) (rows_in (flow_of d f))
  unfolding total_within
  total-more n f = refl

  pub total-rises : (n f : ℕ) → total_within n f ≤ total_within (suc n) f
  unfolding total_within
  total-rises zero f = omega arith
  total-rises (suc n) f =
      let a = sum_by-le-sum_by (row_total n) (row_total (suc n)) (rows_in (flow_of d f)) (λ r. total-rises n (row_of d r).flow)
      in omega arith

-- all that stands in a flow itself
abbrev pub height_in : FlowsData → ℕ → ℕ
height_in d f = flow_height d (flow_of d f)

-- ---- rows and flows

module _ (d : FlowsData) (sound : IsSound d) where
  row-flow : (r : ℕ) → r < length d.rows → (row_of d r).flow < length d.flows
  row-flow r lt = (sound.rows r no_row lt).flow

  flows-of-rows : ℕ → ℕ → List ℕ
  flows-of-rows k m = map (λ i. (row_of d i).flow) (count_up k m)

  flows-in-range : (k m : ℕ) → k + m ≤ length d.rows → AllIn 0 (0 + length d.flows) (flows-of-rows k m)
  unfolding flows-of-rows count_up AllIn
  flows-in-range k zero le = tt
  flows-in-range k (suc m) le =
      (omega arith, (let lt = row-flow k (omega arith) in omega arith), flows-in-range (suc k) m (omega arith))

  flows-once : (k m f : ℕ) → k + m ≡ length d.rows → f < 0 + length d.flows → count_of f (flows-of-rows k m) ≤ 1
  unfolding flows-of-rows up
  flows-once k m f e lt =
      let belongs = sound.flow_belongs f (omega arith) in
      let parts : count_of f (flow_owners d) ≡ count_of f (map (λ (r : RowInfo). r.flow) d.rows) + count_of f
      (map (λ (s : Stack). s.flow) d.stacks) =
      sum_by-append (λ m. cond (m == f) 1 0) (map (λ (r : RowInfo). r.flow) d.rows) (map (λ (s : Stack). s.flow) d.stacks) in
      let here = sum-map (λ m. cond (m == f) 1 0) (λ i. (row_of d i).flow) (count_up k m) in
      let start = up-from-start (λ i. cond ((row_of d i).flow == f) 1 0) k m in
      let start' = rw e at start in
      let all = up-list (λ i. cond ((row_of d i).flow == f) 1 0) (λ (r : RowInfo). cond (r.flow == f) 1 0) no_row 0 d.rows
      (λ i l. let z : 0 + i ≡ i = omega arith in rw z refl) in
      let listed = sum-map (λ m. cond (m == f) 1 0) (λ (r : RowInfo). r.flow) d.rows in
      omega arith

  -- over the rows from k on, by their flows, is no more than over all flows
  rows-by-flows : (g : ℕ → ℕ) (k m : ℕ) → k + m ≡ length d.rows → up (λ i. g (row_of d i).flow) k m ≤ up g 0 (length d.flows)
  unfolding flows-of-rows up
  rows-by-flows g k m e =
      let a = within-up g 0 (length d.flows) (flows-of-rows k m) (flows-in-range k m (omega arith))
      (λ f lt. flows-once k m f e lt) in
      let b = sum-map g (λ i. (row_of d i).flow) (count_up k m) in
      omega arith

  -- the rows that stand in the rows from k on
  children : ℕ → ℕ → List ℕ
  children k m = flat_map (λ i. rows_in (flow_in d i)) (count_up k m)

  children-in : (low k m : ℕ) → low < suc k → k + m ≤ length d.rows → AllIn (suc low) (length d.rows) (children k m)
  unfolding children count_up AllIn
  children-in low k zero lt le = tt
  children-in low k (suc m) lt le =
      let good = good-rows d sound k (omega arith) in
      AllIn-append (suc low) (length d.rows) (rows_in (flow_in d k)) (flat_map (λ i. rows_in (flow_in d i)) (count_up (suc k) m))
      (AllIn-all (suc low) (length d.rows) (rows_in (flow_in d k))
      (λ j e l. ((let later = (sound.inner_rows k (omega arith) j e l).later in omega arith), (good j e l).0)))
      (children-in low (suc k) m (omega arith) (omega arith))

  children-once : (k m n : ℕ) → k + m ≡ length d.rows → n < length d.rows → count_of n (children k m) ≤ 1
  unfolding children up
  children-once k m n e lt =
      let belongs = sound.row_belongs n lt in
      let here = sum-flat (λ x. cond (x == n) 1 0) (λ i. rows_in (flow_in d i)) (count_up k m) in
      let by_flows = rows-by-flows (λ f. count_of n (rows_in (flow_of d f))) k m e in
      let all = up-list (λ f. count_of n (rows_in (flow_of d f))) (λ (f : Flow). count_of n (rows_in f)) no_flow 0 d.flows
      (λ i l. let z : 0 + i ≡ i = omega arith in rw z refl) in
      let listed = sum-flat (λ x. cond (x == n) 1 0) rows_in d.flows in
      omega arith

  -- ---- the totals of rows

  module _ (weight : ℕ → ℕ) where
    -- which is the same at each depth that serves
    pub total-same : (n r a b : ℕ) → NestsAtMost d n r → n ≤ a → n ≤ b → row_total d weight a r ≡ row_total d weight b r
    unfolding total_within
    total-same zero r a b nests le ge = absurd nests
    total-same (suc n) r zero b nests le ge = absurd (omega arith)
    total-same (suc n) r (suc a) zero nests le ge = absurd (omega arith)
    total-same (suc n) r (suc a) (suc b) nests le ge =
        ap (λ m. weight (row_of d r).flow + m)
        (sum-same (row_total d weight a) (row_total d weight b) (rows_in (flow_in d r))
        (λ k e lt. total-same n (get_or (rows_in (flow_in d r)) k e) a b (nests k e lt) (omega arith) (omega arith)))

    total-row : (r : ℕ) → r < length d.rows → row_total d weight (length d.rows) r
        ≡ weight (row_of d r).flow + sum_by (row_total d weight (length d.rows)) (rows_in (flow_in d r))
    total-row r lt =
        let fuel : suc (length d.rows - 1) ≡ length d.rows = omega arith in
        let good = good-rows d sound r lt in
        let P : ℕ → Type 0 = λ n. row_total d weight n r
        ≡ weight (row_of d r).flow + sum_by (row_total d weight (length d.rows - 1)) (rows_in (flow_in d r)) in
        let one : row_total d weight (length d.rows) r
        ≡ weight (row_of d r).flow + sum_by (row_total d weight (length d.rows - 1)) (rows_in (flow_in d r)) =
        subst P fuel (total-more d weight (length d.rows - 1) (row_of d r).flow) in
        one ∙ ap (λ m. weight (row_of d r).flow + m)
        (sum-same (row_total d weight (length d.rows - 1)) (row_total d weight (length d.rows)) (rows_in (flow_in d r))
        (λ k e l. let g = (good k e l).0 in let later = (sound.inner_rows r lt k e l).later in
        total-same (length d.rows - get_or (rows_in (flow_in d r)) k e) (get_or (rows_in (flow_in d r)) k e)
        (length d.rows - 1) (length d.rows) (nests-by-number d sound (length d.rows - get_or (rows_in (flow_in d r)) k e)
        (get_or (rows_in (flow_in d r)) k e) g (omega arith)) (omega arith) (omega arith)))

    totals-split : (k m : ℕ) → k + m ≤ length d.rows → up (row_total d weight (length d.rows)) k m
        ≡ up (λ i. weight (row_of d i).flow) k m + sum_by (row_total d weight (length d.rows)) (children k m)
    unfolding up children count_up
    totals-split k zero le = refl
    totals-split k (suc m) le =
        omega (
          arith,
          totals-split (suc k) m (omega arith),
          total-row k (omega arith),
          sum_by-cons (row_total d weight (length d.rows)) k (count_up (suc k) m),
          sum_by-cons (λ i. weight (row_of d i).flow) k (count_up (suc k) m),
          sum_by-append (row_total d weight (length d.rows)) (rows_in (flow_in d k))
              (flat_map (λ i. rows_in (flow_in d i)) (count_up (suc k) m)),
        )

    -- what stands in a row weighs no more than all flows together
    pub total-up : (r : ℕ) → r < length d.rows → row_total d weight (length d.rows) r ≤ up weight 0 (length d.flows)
    total-up r lt =
        let m = length d.rows - r - 1 in
        let whole : r + suc (length d.rows - r - 1) ≡ length d.rows = omega arith in
        let split = totals-split r (suc (length d.rows - r - 1)) (omega arith) in
        let first = up-more (row_total d weight (length d.rows)) r (length d.rows - r - 1) in
        let range : suc r + (length d.rows - r - 1) ≡ length d.rows = omega arith in
        let inside : AllIn (suc r) (suc r + (length d.rows - r - 1)) (children r (suc (length d.rows - r - 1))) =
        rw range (children-in r r (suc (length d.rows - r - 1)) (omega arith) (omega arith)) in
        let below = within-up (row_total d weight (length d.rows)) (suc r) (length d.rows - r - 1)
        (children r (suc (length d.rows - r - 1))) inside
        (λ n l. children-once r (suc (length d.rows - r - 1)) n whole (omega arith)) in
        let by_flows = rows-by-flows weight r (suc (length d.rows - r - 1)) whole in
        omega arith

  -- so it is no higher than they
  pub total-le : (r : ℕ) → r < length d.rows → row_total d (height_in d) (length d.rows) r ≤ sum_by (flow_height d) d.flows
  total-le r lt =
      let whole = total-up (height_in d) r lt in
      let listed = up-list (height_in d) (flow_height d) no_flow 0 d.flows
      (λ i l. let z : 0 + i ≡ i = omega arith in rw z refl) in
      omega arith
