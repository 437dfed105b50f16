-- In sound data each row directly in a stack is told of once.
use Rattle.std.proofs.Common.{◌≡◌, ℕ, zero, suc, ◌+◌, ◌==◌, ◌<◌, ◌≤◌, ◌⊎◌, inl, inr, Bool, true, false, cond, List, [], ◌∷◌, ◌++◌}
use Rattle.std.proofs.Common.{length, map, get_or, refl, subst, sym, ◌∙◌, ap, arith, sum_by}
use Rattle.std.specs.Prelude.{All, filter}
use Rattle.std.specs.List.{flat_map}
use Rattle.std.proofs.lemmas.Bool.{cases_lt, cases_eq}
use Rattle.std.proofs.lemmas.Bool.Decides.{nat_tests}
use Rattle.std.proofs.lemmas.List.{map-append}
use Rattle.std.proofs.lemmas.List.Concat.{flat_map-append}
use Rattle.std.proofs.lemmas.List.Elements.{All-nil, All-cons, All-append}
use Rattle.std.proofs.lemmas.List.Sums.{sum_by-cons, sum_by-append, get_or-le-sum_by}
use Rattle.flow_list.specs.Data.{Atom, Bound, Flow, FlowsData, Item, Row, RowInfo, Stack}
use Rattle.flow_data.specs.Flows.{flow_of, stack_of, item_of, row_in, rows_in, no_item, no_flow, no_stack}
use Rattle.flow_data.specs.Soundness.{IsSound, IsSoundItem, count_of}
use Rattle.flow_laws.proofs.HoldingOnce.{one-place, one-at}
use Rattle.flow_data.proofs.Counts.{count-cons, count-no}
use Rattle.flow_laws.proofs.Totals.{sum-flat, sum-map}
use Rattle.flow_list.specs.Certificate.{StackRow, stack_rows, numbers_below, rows_in_stacks}

-- ---- numbers below

-- all of these numbers count nothing
sum-none : (g : ℕ → ℕ) (n : ℕ) → ((i : ℕ) → i < n → g i ≡ 0) → sum_by g (numbers_below n) ≡ 0
sum-none g zero none = refl
sum-none g (suc n) none =
    let rest = sum-none g n (λ i low. none i (omega arith)) in
    let last = none n (omega arith) in
    omega (arith, sum_by-append g (numbers_below n) (n ∷ []), sum_by-cons g n [])

-- one of these numbers, where the others count nothing
sum-one : (g : ℕ → ℕ) (n s : ℕ) → s < n → ((i : ℕ) → i < n → (i ≡ s → ⊥) → g i ≡ 0) → sum_by g (numbers_below n) ≡ g s
sum-one g zero s lt none = absurd (omega arith)
sum-one g (suc n) s lt none = go (cases_eq n s) (λ low. sum-one g n s low (λ i below other. none i (omega arith) other))
    (λ e. sum-none g n (λ i low. none i (omega arith) (omega arith)))
  where
    go : (n ≡ s) ⊎ (n ≡ s → ⊥) → (s < n → sum_by g (numbers_below n) ≡ g s) → (n ≡ s → sum_by g (numbers_below n) ≡ 0) →
        sum_by g (numbers_below n ++ n ∷ []) ≡ g s
    go (inl e) later first =
        let rest = first e in
        let same : g n ≡ g s = ap g e in
        omega (arith, sum_by-append g (numbers_below n) (n ∷ []), sum_by-cons g n [])
    go (inr ne) later first =
        let rest = later (omega arith) in
        let last = none n (omega arith) ne in
        omega (arith, sum_by-append g (numbers_below n) (n ∷ []), sum_by-cons g n [])

-- ---- the rows of items

-- the rows of these
abbrev pub numbers_of : List StackRow → List ℕ
numbers_of rs = map (λ (r : StackRow). r.row) rs

rows-are : (d : FlowsData) (bound : Bound) (f : Flow) (k : ℕ) (items : List Item) →
    numbers_of (stack_rows d bound f k items) ≡ flat_map row_in items
rows-are d bound f k [] = refl
rows-are d bound f k (Atom height kind ∷ items) = rows-are d bound f (suc k) items
rows-are d bound f k (Row r ∷ items) = ap (λ rs. r ∷ rs) (rows-are d bound f (suc k) items)

numbers-flat : {X : Type 0} (g : X → List StackRow) (xs : List X) →
    numbers_of (flat_map g xs) ≡ flat_map (λ x. numbers_of (g x)) xs
numbers-flat g [] = refl
numbers-flat g (x ∷ xs) = map-append (λ (r : StackRow). r.row) (g x) (flat_map g xs)
    ∙ ap (λ rs. numbers_of (g x) ++ rs) (numbers-flat g xs)

-- of those of one number as many as there are of it, and of another number none
same-number : (n r : ℕ) (all : List StackRow) → count_of r (numbers_of (filter (λ (x : StackRow). x.row == n) all)) ≡
    cond (n == r) (count_of r (numbers_of all)) 0
same-number n r [] = go (n == r)
  where
    none : ℕ
    none = 0

    go : (b : Bool) → none ≡ cond b none none
    go true = refl
    go false = refl
same-number n r (x ∷ all) = go (x.row == n) refl (n == r) refl (same-number n r all)
  where
    go : (a : Bool) → (x.row == n) ≡ a → (b : Bool) → (n == r) ≡ b →
        count_of r (numbers_of (filter (λ (x : StackRow). x.row == n) all)) ≡ cond b (count_of r (numbers_of all)) 0 →
        count_of r (numbers_of (cond a (x ∷ filter (λ (x : StackRow). x.row == n) all)
        (filter (λ (x : StackRow). x.row == n) all))) ≡ cond b (count_of r (x.row ∷ numbers_of all)) 0
    go true ea true eb rest =
        let f = numbers_of (filter (λ (x : StackRow). x.row == n) all) in
        count-cons r x.row f ∙ ap (λ k. cond (x.row == r) 1 0 + k) rest ∙ sym (count-cons r x.row (numbers_of all))
    go true ea false eb rest = count-no r x.row (numbers_of (filter (λ (x : StackRow). x.row == n) all))
        (grind (arith, nat_tests)) ∙ rest
    go false ea true eb rest = rest ∙ sym (count-no r x.row (numbers_of all) (grind (arith, nat_tests)))
    go false ea false eb rest = rest

row-counted : (r k : ℕ) (items : List Item) → k < length items → get_or items k no_item ≡ Row r →
    1 ≤ count_of r (flat_map row_in items)
row-counted r k [] lt e = absurd (omega arith)
row-counted r zero (Atom height kind ∷ items) lt e = absurd cc
row-counted r zero (Row s ∷ items) lt e = let same : s ≡ r = cc in let one = count-cons r s (flat_map row_in items) in
    let yes = one-at s r same in omega arith
row-counted r (suc k) (Atom height kind ∷ items) lt e = row-counted r k items (omega arith) e
row-counted r (suc k) (Row s ∷ items) lt e = let rest = row-counted r k items (omega arith) e in
    let one = count-cons r s (flat_map row_in items) in omega arith

-- ---- the rows of all stacks

-- each of them is a row of the data
passed : (n : ℕ) (all : List StackRow) → All (λ (x : StackRow). x.row ≡ n) (filter (λ (x : StackRow). x.row == n) all)
passed n [] = All-nil (λ (x : StackRow). x.row ≡ n)
passed n (x ∷ all) = go (x.row == n) refl (passed n all)
  where
    go : (b : Bool) → (x.row == n) ≡ b → All (λ (x : StackRow). x.row ≡ n) (filter (λ (x : StackRow). x.row == n) all) →
        All (λ (x : StackRow). x.row ≡ n) (cond b (x ∷ filter (λ (x : StackRow). x.row == n) all)
        (filter (λ (x : StackRow). x.row == n) all))
    go true e rest = All-cons (λ (x : StackRow). x.row ≡ n) x _ (grind (arith, nat_tests)) rest
    go false e rest = rest

module _ (d : FlowsData) (sound : IsSound d) where
  -- how often row r stands directly in stack s
  abbrev in_stack : ℕ → ℕ → ℕ
  in_stack r s = count_of r (rows_in (flow_of d (stack_of d s).flow))

  abbrev rows_of_stack : ℕ → List StackRow
  rows_of_stack s = stack_rows d (stack_of d s).bound (flow_of d (stack_of d s).flow) 0 (flow_of d (stack_of d s).flow).items

  abbrev all_rows_in : List StackRow
  all_rows_in = flat_map rows_of_stack (numbers_below (length d.stacks))

  all-count : (r : ℕ) → count_of r (numbers_of all_rows_in) ≡ sum_by (in_stack r) (numbers_below (length d.stacks))
  all-count r =
      ap (count_of r) (numbers-flat rows_of_stack (numbers_below (length d.stacks)))
      ∙ sum-flat (λ k. cond (k == r) 1 0) (λ s. numbers_of (rows_of_stack s)) (numbers_below (length d.stacks))
      ∙ each (numbers_below (length d.stacks))
    where
      each : (ss : List ℕ) → sum_by (λ s. count_of r (numbers_of (rows_of_stack s))) ss ≡ sum_by (in_stack r) ss
      each [] = refl
      each (s ∷ ss) =
          let f = flow_of d (stack_of d s).flow in
          let one : count_of r (numbers_of (rows_of_stack s)) ≡ in_stack r s =
          ap (count_of r) (rows-are d (stack_of d s).bound f 0 f.items) in
          let rest = each ss in
          omega (arith, sum_by-cons (λ s. count_of r (numbers_of (rows_of_stack s))) s ss, sum_by-cons (in_stack r) s ss)

  stacks-count : (r : ℕ) → r < length d.rows → count_of r (numbers_of (rows_in_stacks d)) ≡ count_of r (numbers_of all_rows_in)
  unfolding rows_in_stacks
  stacks-count r lt =
      ap (count_of r) (numbers-flat (λ n. filter (λ (x : StackRow). x.row == n) all_rows_in) (numbers_below (length d.rows)))
      ∙ sum-flat (λ k. cond (k == r) 1 0) (λ n. numbers_of (filter (λ (x : StackRow). x.row == n) all_rows_in))
      (numbers_below (length d.rows))
      ∙ sum-one (λ n. count_of r (numbers_of (filter (λ (x : StackRow). x.row == n) all_rows_in))) (length d.rows) r lt
      (λ n low other. same-number n r all_rows_in ∙ none n other)
      ∙ same-number r r all_rows_in ∙ own
    where
      none : (n : ℕ) → (n ≡ r → ⊥) → cond (n == r) (count_of r (numbers_of all_rows_in)) 0 ≡ 0
      none n other = let e : (n == r) ≡ false = grind (arith, nat_tests) in
          ap (λ b. cond b (count_of r (numbers_of all_rows_in)) 0) e

      own : cond (r == r) (count_of r (numbers_of all_rows_in)) 0 ≡ count_of r (numbers_of all_rows_in)
      own = let e : (r == r) ≡ true = grind (arith, nat_tests) in ap (λ b. cond b (count_of r (numbers_of all_rows_in)) 0) e

  -- a flow is that of one stack
  one-stack : (s t : ℕ) → s < length d.stacks → t < length d.stacks → (stack_of d s).flow ≡ (stack_of d t).flow → s ≡ t
  one-stack s t lt_s lt_t same =
      let f = (stack_of d s).flow in
      let known = (sound.stacks s lt_s).flow in
      let owned = sound.flow_belongs f known in
      let parts = sum_by-append (λ k. cond (k == f) 1 0) (map (λ (r : RowInfo). r.flow) d.rows)
      (map (λ (s : Stack). s.flow) d.stacks) in
      let stacks = sum-map (λ k. cond (k == f) 1 0) (λ (s : Stack). s.flow) d.stacks in
      one-place (λ (s : Stack). cond (s.flow == f) 1 0) d.stacks s t no_stack (omega arith) lt_s lt_t (one-at f f refl)
      (one-at (stack_of d t).flow f (sym same))

  module _ (s k r : ℕ) (lt : s < length d.stacks) (inside : k < length (flow_of d (stack_of d s).flow).items)
      (is : item_of (flow_of d (stack_of d s).flow) k ≡ Row r) where
    row-known : r < length d.rows
    row-known = let P : Item → Type 0 = λ i. IsSoundItem d i in
        subst P is ((sound.flows (stack_of d s).flow no_flow (sound.stacks s lt).flow).items k no_item inside)

    in-all : sum_by (λ f. count_of r (rows_in f)) d.flows ≡ 1
    in-all = let all = sum-flat (λ k. cond (k == r) 1 0) rows_in d.flows in let belongs = sound.row_belongs r row-known in
        omega arith

    here : 1 ≤ in_stack r s
    here = row-counted r k (flow_of d (stack_of d s).flow).items inside is

    once : in_stack r s ≡ 1
    once = let a = here in let b = in-all in let c = get_or-le-sum_by (λ f. count_of r (rows_in f)) d.flows (stack_of d s).flow
        no_flow (sound.stacks s lt).flow in omega arith

    elsewhere : (t : ℕ) → t < length d.stacks → (t ≡ s → ⊥) → in_stack r t ≡ 0
    elsewhere t lt_t other = go (cases_lt 0 (in_stack r t))
      where
        go : (0 < in_stack r t) ⊎ (in_stack r t ≤ 0) → in_stack r t ≡ 0
        go (inl some) =
            let b = in-all in
            let same = one-place (λ f. count_of r (rows_in f)) d.flows (stack_of d s).flow (stack_of d t).flow no_flow
            (omega arith) (sound.stacks s lt).flow (sound.stacks t lt_t).flow here (omega arith) in
            absurd (other (sym (one-stack s t lt lt_t same)))
        go (inr none) = omega arith

    pub stands-once : count_of r (numbers_of (rows_in_stacks d)) ≡ 1
    stands-once = stacks-count r row-known ∙ all-count r ∙ sum-one (in_stack r) (length d.stacks) s lt elsewhere ∙ once

-- each row that is told of is one of the data
below-known : (all : List StackRow) (n m : ℕ) → n ≤ m → All (λ (x : StackRow). x.row < m)
    (flat_map (λ n. filter (λ (x : StackRow). x.row == n) all) (numbers_below n))
below-known all zero m le = All-nil (λ (x : StackRow). x.row < m)
below-known all (suc n) m le =
    subst (All (λ (x : StackRow). x.row < m)) (sym (flat_map-append pick (numbers_below n) (n ∷ [])))
    (All-append (λ (x : StackRow). x.row < m) (flat_map pick (numbers_below n)) (pick n ++ []) (below-known all n m (omega arith))
    (All-append (λ (x : StackRow). x.row < m) (pick n) [] (low (pick n) (passed n all)) (All-nil (λ (x : StackRow). x.row < m))))
  where
    pick : ℕ → List StackRow
    pick n = filter (λ (x : StackRow). x.row == n) all

    low : (xs : List StackRow) → All (λ (x : StackRow). x.row ≡ n) xs → All (λ (x : StackRow). x.row < m) xs
    low xs each = λ k e inside. let same = each k e inside in omega arith

pub stack-rows-known : (d : FlowsData) → All (λ (x : StackRow). x.row < length d.rows) (rows_in_stacks d)
unfolding rows_in_stacks
stack-rows-known d =
    below-known (flat_map (λ s. stack_rows d (stack_of d s).bound (flow_of d (stack_of d s).flow) 0
    (flow_of d (stack_of d s).flow).items) (numbers_below (length d.stacks))) (length d.rows) (length d.rows) (omega arith)
