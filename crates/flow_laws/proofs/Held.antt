-- What a flow holds, with the flows of its rows and of the stacks that its atoms name, and so on: from stack 0 inwards each flow
-- stands in one place, so a weight summed over all that stack 0 holds is no more than over all flows.
use Rattle.std.proofs.Common.{◌≡◌, ℕ, zero, suc, ◌+◌, ◌<◌, ◌≤◌, List, [], ◌∷◌, map, length, get_or, refl, sym, subst, ◌∙◌, ap}
use Rattle.std.proofs.Common.{arith, sum_by, ◌⊎◌, inl, inr}
use Rattle.std.specs.Prelude.{All}
use Rattle.std.specs.List.{flat_map}
use Rattle.std.proofs.lemmas.Bool.{cases_lt}
use Rattle.std.proofs.lemmas.Bool.Decides.{nat_tests}
use Rattle.std.proofs.lemmas.List.{get_or_default}
use Rattle.std.proofs.lemmas.List.Elements.{All-map}
use Rattle.std.proofs.lemmas.List.Sums.{sum_by-cons, sum_by-append, sum_by-le-sum_by}
use Rattle.flow_list.specs.Data.{Flow, FlowsData, Item, RowInfo, Stack, Plain, Line, Void, Image, Bounded, Atom, Row}
use Rattle.flow_data.specs.Flows.{item_of, no_item, row_of, stack_of, flow_of, row_in, rows_in, no_flow, no_row, no_stack}
use Rattle.flow_data.specs.Soundness.{IsSound, IsSoundItem, count_of, flow_owners, stack_in, stacks_in}
use Rattle.flow_data.proofs.Counts.{count-cons}
use Rattle.flow_laws.proofs.Totals.{sum-map, sum-flat, up, up-list, up-both, up-below, AllIn, AllIn-append, AllIn-all, within-up}

module _ (d : FlowsData) (weight : ℕ → ℕ) where
  -- the weight of flow f and of all that it holds, n flows deep
  pub held : ℕ → ℕ → ℕ
  held zero f = 0
  held (suc n) f = weight f + (sum_by (λ r. held n (row_of d r).flow) (rows_in (flow_of d f)) + sum_by
      (λ s. held n (stack_of d s).flow) (stacks_in (flow_of d f)))

  pub held-more : (n f : ℕ) → held (suc n) f
      ≡ weight f + (sum_by (λ r. held n (row_of d r).flow) (rows_in (flow_of d f)) + sum_by (λ s. held n (stack_of d s).flow)
      (stacks_in (flow_of d f)))
  unfolding held
  held-more n f = refl

  pub held-rises : (n f : ℕ) → held n f ≤ held (suc n) f
  unfolding held
  held-rises zero f = omega arith
  held-rises (suc n) f =
      let a = sum_by-le-sum_by (λ r. held n (row_of d r).flow) (λ r. held (suc n) (row_of d r).flow) (rows_in (flow_of d f))
      (λ r. held-rises n (row_of d r).flow) in
      let b = sum_by-le-sum_by (λ s. held n (stack_of d s).flow) (λ s. held (suc n) (stack_of d s).flow) (stacks_in (flow_of d f))
      (λ s. held-rises n (stack_of d s).flow) in
      omega arith

  pub held-deeper : (m n f : ℕ) → m ≤ n → held m f ≤ held n f
  held-deeper m zero f le = let z : m ≡ 0 = omega arith in let P : ℕ → Type 0 = λ k. held k f ≤ held 0 f
      in subst P (sym z) (omega arith)
  held-deeper m (suc n) f le = go (cases_lt m (suc n)) (λ less. held-deeper m n f less)
    where
      go : (m < suc n) ⊎ (suc n ≤ m) → (m ≤ n → held m f ≤ held n f) → held m f ≤ held (suc n) f
      go (inl lt) rest = let a = rest (omega arith) in let b = held-rises n f in omega arith
      go (inr ge) rest = let z : m ≡ suc n = omega arith in let P : ℕ → Type 0 = λ k. held k f ≤ held (suc n) f
          in subst P (sym z) (omega arith)

-- ---- rows and stacks by the flows that hold them

rows-known : (d : FlowsData) (items : List Item) → All (IsSoundItem d) items → AllIn 0 (0 + length d.rows) (flat_map row_in items)
unfolding AllIn
rows-known d [] all = tt
rows-known d (Atom height kind ∷ items) all = rows-known d items (λ k e lt. all (suc k) e (omega arith))
rows-known d (Row r ∷ items) all = let here = all 0 (Row r) (omega arith)
    in (omega arith, omega arith, rows-known d items (λ k e lt. all (suc k) e (omega arith)))

stacks-known : (d : FlowsData) (items : List Item) → All (IsSoundItem d) items
    → AllIn 0 (0 + length d.stacks) (flat_map stack_in items)
unfolding AllIn
stacks-known d [] all = tt
stacks-known d (Atom h Plain ∷ items) all = stacks-known d items (λ k e lt. all (suc k) e (omega arith))
stacks-known d (Atom h (Line owner index x w) ∷ items) all = stacks-known d items (λ k e lt. all (suc k) e (omega arith))
stacks-known d (Atom h (Void owner x w) ∷ items) all = stacks-known d items (λ k e lt. all (suc k) e (omega arith))
stacks-known d (Atom h (Image owner x w) ∷ items) all = stacks-known d items (λ k e lt. all (suc k) e (omega arith))
stacks-known d (Atom h (Bounded owner s x) ∷ items) all =
    let here = (all 0 (Atom h (Bounded owner s x)) (omega arith)).stack.0
    in (omega arith, omega arith, stacks-known d items (λ k e lt. all (suc k) e (omega arith)))
stacks-known d (Row r ∷ items) all = stacks-known d items (λ k e lt. all (suc k) e (omega arith))

all-known : (high : ℕ) (of : Flow → List ℕ) (flows : List Flow) → All (λ f. AllIn 0 high (of f)) flows
    → AllIn 0 high (flat_map of flows)
unfolding AllIn
all-known high of [] all = tt
all-known high of (f ∷ flows) all = AllIn-append 0 high (of f) (flat_map of flows) (all 0 f (omega arith))
    (all-known high of flows (λ k e lt. all (suc k) e (omega arith)))

module _ (d : FlowsData) (sound : IsSound d) where
  -- over the rows that stand in flows it is no more than over all rows
  pub over-rows : (g : ℕ → ℕ) → up (λ f. sum_by g (rows_in (flow_of d f))) 0 (length d.flows) ≤ up g 0 (length d.rows)
  over-rows g =
      let listed = up-list (λ f. sum_by g (rows_in (flow_of d f))) (λ (f : Flow). sum_by g (rows_in f)) no_flow 0 d.flows
      (λ i l. let z : 0 + i ≡ i = omega arith in rw z refl) in
      let flat = sum-flat g rows_in d.flows in
      let known = all-known (0 + length d.rows) rows_in d.flows
      (λ k e lt. rows-known d (get_or d.flows k e).items (sound.flows k e lt).items) in
      let within = within-up g 0 (length d.rows) (flat_map rows_in d.flows) known
      (λ n lt. let belongs = sound.row_belongs n (omega arith) in omega arith) in
      omega arith

  first-once : (n : ℕ) → n < length d.stacks → count_of n (0 ∷ flat_map stacks_in d.flows) ≤ 1
  first-once n lt = let named = (sound.stacks n lt).named in let c = count-cons n 0 (flat_map stacks_in d.flows)
      in grind (arith, nat_tests)

  -- and over the stacks that are named, with the first one, no more than over all stacks
  over-stacks : (g : ℕ → ℕ) → 0 < length d.stacks
      → g 0 + up (λ f. sum_by g (stacks_in (flow_of d f))) 0 (length d.flows) ≤ up g 0 (length d.stacks)
  unfolding AllIn
  over-stacks g some =
      let listed = up-list (λ f. sum_by g (stacks_in (flow_of d f))) (λ (f : Flow). sum_by g (stacks_in f)) no_flow 0 d.flows
      (λ i l. let z : 0 + i ≡ i = omega arith in rw z refl) in
      let flat = sum-flat g stacks_in d.flows in
      let known = all-known (0 + length d.stacks) stacks_in d.flows
      (λ k e lt. stacks-known d (get_or d.flows k e).items (sound.flows k e lt).items) in
      let within = within-up g 0 (length d.stacks) (0 ∷ flat_map stacks_in d.flows) (omega arith, omega arith, known)
      (λ n lt. first-once n (omega arith)) in
      let first = sum_by-cons g 0 (flat_map stacks_in d.flows) in
      omega arith

  pub owners-known : AllIn 0 (0 + length d.flows) (flow_owners d)
  owners-known =
      let rows : All (λ f. (0 ≤ f) × (f < 0 + length d.flows)) (map (λ (r : RowInfo). r.flow) d.rows) =
      All-map (λ f. (0 ≤ f) × (f < 0 + length d.flows)) (λ (r : RowInfo). r.flow) d.rows
      (λ k e lt. let known = (sound.rows k e lt).flow in (omega arith, omega arith)) in
      let stacks : All (λ f. (0 ≤ f) × (f < 0 + length d.flows)) (map (λ (s : Stack). s.flow) d.stacks) =
      All-map (λ f. (0 ≤ f) × (f < 0 + length d.flows)) (λ (s : Stack). s.flow) d.stacks (λ k e lt. stack-flow k e lt) in
      AllIn-append 0 (0 + length d.flows) (map (λ (r : RowInfo). r.flow) d.rows) (map (λ (s : Stack). s.flow) d.stacks)
      (AllIn-all 0 (0 + length d.flows) _ rows) (AllIn-all 0 (0 + length d.flows) _ stacks)
    where
      stack-flow : (k : ℕ) (e : Stack) → k < length d.stacks
          → (0 ≤ (get_or d.stacks k e).flow) × ((get_or d.stacks k e).flow < 0 + length d.flows)
      stack-flow k e lt =
          let P : Stack → Type 0 = λ s. (0 ≤ s.flow) × (s.flow < 0 + length d.flows) in
          let known = (sound.stacks k lt).flow in
          subst P (get_or_default d.stacks k no_stack e lt) (omega arith, omega arith)

  -- over the flows of rows and stacks it is no more than over all flows
  pub over-owners : (g : ℕ → ℕ)
      → up (λ r. g (row_of d r).flow) 0 (length d.rows) + up (λ s. g (stack_of d s).flow) 0 (length d.stacks) ≤ up g 0
      (length d.flows)
  over-owners g =
      let rows = up-list (λ r. g (row_of d r).flow) (λ (r : RowInfo). g r.flow) no_row 0 d.rows
      (λ i l. let z : 0 + i ≡ i = omega arith in rw z refl) in
      let stacks = up-list (λ s. g (stack_of d s).flow) (λ (s : Stack). g s.flow) no_stack 0 d.stacks
      (λ i l. let z : 0 + i ≡ i = omega arith in rw z refl) in
      let by_row = sum-map g (λ (r : RowInfo). r.flow) d.rows in
      let by_stack = sum-map g (λ (s : Stack). s.flow) d.stacks in
      let both = sum_by-append g (map (λ (r : RowInfo). r.flow) d.rows) (map (λ (s : Stack). s.flow) d.stacks) in
      let within = within-up g 0 (length d.flows) (flow_owners d) owners-known
      (λ n lt. let belongs = sound.flow_belongs n (omega arith) in omega arith) in
      omega arith

  -- The weight of all that stack 0 holds is no more than that of all flows.
  pub held-le : (weight : ℕ → ℕ) → 0 < length d.stacks → (n : ℕ)
      → held d weight n (stack_of d 0).flow ≤ up weight 0 (length d.flows)
  unfolding held
  held-le weight some n =
      let g = held d weight n in
      let rows = over-rows (λ r. g (row_of d r).flow) in
      let stacks = over-stacks (λ s. g (stack_of d s).flow) some in
      let owners = over-owners g in
      let parts = up-both weight (λ f. sum_by (λ r. g (row_of d r).flow) (rows_in (flow_of d f)) + sum_by
      (λ s. g (stack_of d s).flow) (stacks_in (flow_of d f))) 0 (length d.flows) in
      let more = up-both (λ f. sum_by (λ r. g (row_of d r).flow) (rows_in (flow_of d f)))
      (λ f. sum_by (λ s. g (stack_of d s).flow) (stacks_in (flow_of d f))) 0 (length d.flows) in
      let rises = up-below g (held d weight (suc n)) 0 (length d.flows) (held-rises d weight n) in
      omega arith

-- ---- one item

pub sum-one : (g : ℕ → ℕ) (x : ℕ) → sum_by g (x ∷ []) ≡ g x
sum-one g x = omega (arith, sum_by-cons g x [])

pub in-list : (g : ℕ → ℕ) (of : Item → List ℕ) (items : List Item) (k : ℕ) → k < length items
    → sum_by g (of (get_or items k no_item)) ≤ sum_by g (flat_map of items)
in-list g of [] k lt = absurd (omega arith)
in-list g of (x ∷ items) zero lt = omega (arith, sum_by-append g (of x) (flat_map of items))
in-list g of (x ∷ items) (suc k) lt =
    omega (arith, in-list g of items k (omega arith), sum_by-append g (of x) (flat_map of items))

module _ (d : FlowsData) (weight : ℕ → ℕ) where
  -- a flow's own weight, and that of what one of its rows holds
  pub held-row : (n f k r : ℕ) → k < length (flow_of d f).items → item_of (flow_of d f) k ≡ Row r
      → weight f + held d weight n (row_of d r).flow ≤ held d weight (suc n) f
  held-row n f k r lt is =
      let more = held-more d weight n f in
      let one = in-list (λ r. held d weight n (row_of d r).flow) row_in (flow_of d f).items k lt in
      let e : sum_by (λ r. held d weight n (row_of d r).flow) (row_in (item_of (flow_of d f) k))
      ≡ held d weight n (row_of d r).flow = ap (λ (i : Item). sum_by (λ r. held d weight n (row_of d r).flow) (row_in i)) is
      ∙ sum-one (λ r. held d weight n (row_of d r).flow) r in
      omega arith

  -- and that of what a stack holds that one of its atoms names
  pub held-stack : (n f k s : ℕ) → k < length (flow_of d f).items → stack_in (item_of (flow_of d f) k) ≡ s ∷ []
      → weight f + held d weight n (stack_of d s).flow ≤ held d weight (suc n) f
  held-stack n f k s lt is =
      let more = held-more d weight n f in
      let one = in-list (λ s. held d weight n (stack_of d s).flow) stack_in (flow_of d f).items k lt in
      let e : sum_by (λ s. held d weight n (stack_of d s).flow) (stack_in (item_of (flow_of d f) k))
      ≡ held d weight n (stack_of d s).flow = ap (λ ss. sum_by (λ s. held d weight n (stack_of d s).flow) ss) is
      ∙ sum-one (λ s. held d weight n (stack_of d s).flow) s in
      omega arith
