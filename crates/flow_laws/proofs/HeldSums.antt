-- What stack 0 holds in all: flows, items and heights. The size of a row, and the items left in it, are no more than what its
-- flow holds.
use Rattle.std.proofs.Common.{◌≡◌, ℕ, zero, suc, ◌+◌, ◌<◌, ◌≤◌, ◌^◌, ◌==◌, Bool, true, false, cond, List, [], ◌∷◌, map, length}
use Rattle.std.proofs.Common.{drop, get_or, refl, subst, ◌∙◌, ap, arith, sum_by}
use Rattle.std.specs.Prelude.{All, count_by}
use Rattle.std.specs.List.{flat_map}
use Rattle.std.proofs.lemmas.Bool.Decides.{nat_tests}
use Rattle.std.proofs.lemmas.List.{get_or_default}
use Rattle.std.proofs.lemmas.List.Sums.{sum_by-cons, sum_by-append, sum_by-le-sum_by, count_by-le-length, get_or-le-sum_by}
use Rattle.flow_list.specs.Data.{Flow, FlowsData, Item, RowInfo, Stack, Atom, Row}
use Rattle.flow_data.specs.Flows.{item_of, no_item, row_of, stack_of, flow_of, flow_in, row_in, rows_in, no_flow, no_row}
use Rattle.flow_data.specs.Flows.{no_stack}
use Rattle.flow_list.specs.Tokens.{Token, row_start, item_number, within}
use Rattle.flow_list.specs.Column.{Inner}
use Rattle.flow_list.specs.Rows.{reach, items_left, left_in, rows_to}
use Rattle.flow_data.specs.Soundness.{IsSound, count_of, flow_owners, is_atom, item_total, flow_height, stack_in, stacks_in}
use Rattle.flow_data.proofs.Counts.{count-cons}
use Rattle.flow_list.proofs.Fitting.{size-reach}
use Rattle.flow_laws.proofs.Totals.{sum-map, up, up-list, up-within}
use Rattle.flow_laws.proofs.Held.{held, held-more, held-deeper, held-le, owners-known, held-row, held-stack, in-list, sum-one}
use Rattle.flow_laws.proofs.SoundRows.{rows-in-range}
use Rattle.flow_laws.proofs.Small.{reach-total}

-- ---- flows

one : ℕ → ℕ
one f = 1

ones : {X : Type 0} (xs : List X) → sum_by (λ x. 1) xs ≡ length xs
ones [] = refl
ones (x ∷ xs) = omega (arith, ones xs, sum_by-cons (λ x. 1) x xs)

-- the flows in a flow, itself included, n deep
pub flows_held : FlowsData → ℕ → ℕ → ℕ
flows_held d n f = held d one n f

-- ---- heights

height_of_flow : FlowsData → ℕ → ℕ
height_of_flow d f = flow_height d (flow_of d f)

-- the heights, edges and cloned edges in a flow, n deep
pub height_held : FlowsData → ℕ → ℕ → ℕ
height_held d n f = held d (height_of_flow d) n f

-- ---- items

-- the items of a row's flow, and the atoms of another flow
pub count_in : FlowsData → ℕ → ℕ
count_in d f = cond (count_of f (map (λ (r : RowInfo). r.flow) d.rows) == 0) (count_by is_atom (flow_of d f).items)
    (length (flow_of d f).items)

-- those of a flow, n deep
pub items_held : FlowsData → ℕ → ℕ → ℕ
items_held d n f = held d (count_in d) n f

has-count : {X : Type 0} (h : X → ℕ) (xs : List X) (k : ℕ) (e : X) → k < length xs → 1 ≤ count_of (h (get_or xs k e)) (map h xs)
has-count h [] k e lt = absurd (omega arith)
has-count h (x ∷ xs) zero e lt = let c = count-cons (h x) (h x) (map h xs) in grind (arith, nat_tests)
has-count h (x ∷ xs) (suc k) e lt = let c = count-cons (h (get_or xs k e)) (h x) (map h xs)
    in omega (arith, has-count h xs k e (omega arith))

sum-under : {X : Type 0} (g h : X → ℕ) (xs : List X) → All (λ x. g x ≤ h x) xs → sum_by g xs ≤ sum_by h xs
sum-under g h [] all = omega arith
sum-under g h (x ∷ xs) all = let first = all 0 x (omega arith)
    in omega (arith, sum-under g h xs (λ k e lt. all (suc k) e (omega arith)), sum_by-cons g x xs, sum_by-cons h x xs)

module _ (d : FlowsData) (sound : IsSound d) where
  pub flows-le : 0 < length d.stacks → (n : ℕ) → flows_held d n (stack_of d 0).flow ≤ length d.flows
  unfolding flows_held one
  flows-le some n =
      let all = held-le d sound one some n in
      let listed = up-list one (λ (f : Flow). 1) no_flow 0 d.flows (λ i lt. refl) in
      let counted = ones d.flows in
      omega arith

  pub heights-le : 0 < length d.stacks → (n : ℕ) → height_held d n (stack_of d 0).flow < 2 ^ 60
  unfolding height_held height_of_flow
  heights-le some n =
      let all = held-le d sound (height_of_flow d) some n in
      let listed = up-list (height_of_flow d) (flow_height d) no_flow 0 d.flows (λ i lt. let z : 0 + i ≡ i = omega arith
      in rw z refl) in
      let small = sound.heights in
      omega arith

  count-le : (f : ℕ) → count_in d f ≤ length (flow_of d f).items
  unfolding count_in
  count-le f = let a = count_by-le-length is_atom (flow_of d f).items in grind (arith, nat_tests)

  pub row-count : (r : ℕ) → r < length d.rows → count_in d (row_of d r).flow ≡ length (flow_in d r).items
  unfolding count_in
  row-count r lt = let a = has-count (λ (r : RowInfo). r.flow) d.rows r no_row lt in grind (arith, nat_tests)

  stack-count : (k : ℕ) (e : Stack) → k < length d.stacks
      → count_in d (get_or d.stacks k e).flow ≤ count_by is_atom (flow_of d (get_or d.stacks k e).flow).items
  unfolding count_in
  stack-count k e lt =
      let f = (get_or d.stacks k e).flow in
      let a = has-count (λ (s : Stack). s.flow) d.stacks k e lt in
      let known : (stack_of d k).flow < length d.flows = (sound.stacks k lt).flow in
      let P : Stack → Type 0 = λ s. s.flow < length d.flows in
      let here = subst P (get_or_default d.stacks k no_stack e lt) known in
      let belongs = sound.flow_belongs (get_or d.stacks k e).flow here in
      let parts : count_of (get_or d.stacks k e).flow (flow_owners d) ≡ count_of (get_or d.stacks k e).flow
      (map (λ (r : RowInfo). r.flow) d.rows) + count_of (get_or d.stacks k e).flow (map (λ (s : Stack). s.flow) d.stacks) =
      sum_by-append (λ m. cond (m == (get_or d.stacks k e).flow) 1 0) (map (λ (r : RowInfo). r.flow) d.rows)
      (map (λ (s : Stack). s.flow) d.stacks) in
      grind (arith, nat_tests)

  pub counts-le : up (count_in d) 0 (length d.flows) ≤ item_total d
  counts-le =
      let within = up-within (count_in d) 0 (length d.flows) (flow_owners d) (owners-known d sound)
      (λ n lt. sound.flow_belongs n (omega arith)) in
      let both = sum_by-append (count_in d) (map (λ (r : RowInfo). r.flow) d.rows) (map (λ (s : Stack). s.flow) d.stacks) in
      let by_row = sum-map (count_in d) (λ (r : RowInfo). r.flow) d.rows in
      let by_stack = sum-map (count_in d) (λ (s : Stack). s.flow) d.stacks in
      let rows = sum_by-le-sum_by (λ (r : RowInfo). count_in d r.flow) (λ (r : RowInfo). length (flow_of d r.flow).items) d.rows
      (λ r. count-le r.flow) in
      let stacks = sum-under (λ (s : Stack). count_in d s.flow) (λ (s : Stack). count_by is_atom (flow_of d s.flow).items)
      d.stacks stack-count in
      omega arith

  pub items-le : 0 < length d.stacks → (n : ℕ) → items_held d n (stack_of d 0).flow ≤ 100000
  unfolding items_held
  items-le some n =
      let all = held-le d sound (count_in d) some n in
      let counts = counts-le in
      let limit = sound.item_limit in
      omega arith

-- ---- sizes and items left

-- at any depth the size of a row is no more than what its flow holds
pub size-held : (d : FlowsData) (m r : ℕ) (q : Token) → (rows_to d m).size r q ≤ height_held d m (row_of d r).flow
unfolding rows_to height_held height_of_flow
size-held d zero r q = omega arith
size-held d (suc m) r q =
    let a = size-reach (rows_to d m) d r q in
    let b = reach-total (rows_to d m) d (flow_in d r) (λ s. height_held d m (row_of d s).flow) q
    (λ k e lt p. size-held d m (get_or (rows_in (flow_in d r)) k e) p) in
    let c = held-more d (height_of_flow d) m (row_of d r).flow in
    omega arith

-- all that a column of flow f may reach
pub reach-held : (d : FlowsData) (m f : ℕ) (t : Token) → reach (rows_to d m) d (flow_of d f) t ≤ height_held d (suc m) f
unfolding height_held height_of_flow
reach-held d m f t =
    let b = reach-total (rows_to d m) d (flow_of d f) (λ s. height_held d m (row_of d s).flow) t
    (λ k e lt p. size-held d m (get_or (rows_in (flow_of d f)) k e) p) in
    let c = held-more d (height_of_flow d) m f in
    omega arith

items-total : (inner : Inner) (total : ℕ → ℕ) (q : Token) (items : List Item)
    → All (λ s. (p : Token) → inner.left s p ≤ total s) (flat_map row_in items) →
    items_left inner q items ≤ length items + sum_by total (flat_map row_in items)
items-total inner total q [] all = omega arith
items-total inner total q (Atom height kind ∷ items) all = let rest = items-total inner total row_start items all in omega arith
items-total inner total q (Row r ∷ items) all =
    let here = all 0 r (omega arith) q in
    let rest = items-total inner total row_start items (λ k e lt. all (suc k) e (omega arith)) in
    omega (arith, sum_by-cons total r (flat_map row_in items))

pub items-part : (inner : Inner) (total : ℕ → ℕ) (q : Token) (n : ℕ) (items : List Item) →
    All (λ s. (p : Token) → inner.left s p ≤ total s) (flat_map row_in items) →
    items_left inner q (drop n items) ≤ length items + sum_by total (flat_map row_in items)
items-part inner total q zero items all = items-total inner total q items all
items-part inner total q (suc n) [] all = omega arith
items-part inner total q (suc n) (Atom height kind ∷ items) all = let rest = items-part inner total q n items all in omega arith
items-part inner total q (suc n) (Row r ∷ items) all =
    let rest = items-part inner total q n items (λ k e lt. all (suc k) e (omega arith))
    in omega (arith, sum_by-cons total r (flat_map row_in items))

module _ (d : FlowsData) (sound : IsSound d) where
  left-step : (m r : ℕ) (q : Token) → r < length d.rows
      → ((s : ℕ) (p : Token) → s < length d.rows → (rows_to d m).left s p ≤ items_held d m (row_of d s).flow)
      → left_in (rows_to d m) (flow_in d r) q ≤ items_held d (suc m) (row_of d r).flow
  unfolding items_held
  left-step m r q lt told =
      let flow = let row = sound.rows r no_row lt in sound.flows (row_of d r).flow no_flow row.flow in
      let range = rows-in-range d (flow_in d r).items flow.items in
      let b = items-part (rows_to d m) (λ s. items_held d m (row_of d s).flow) (within q) (item_number q) (flow_in d r).items
      (λ k e in_rows p. told (get_or (rows_in (flow_in d r)) k e) p (range k e in_rows)) in
      let c = held-more d (count_in d) m (row_of d r).flow in
      let own = row-count d sound r lt in
      omega arith

  left-told : (m s : ℕ) (p : Token) → s < length d.rows → (rows_to d m).left s p ≤ items_held d m (row_of d s).flow
  unfolding rows_to
  left-told zero s p lt = omega arith
  left-told (suc m) s p lt = left-step m s p lt (left-told m)

  -- at any depth there are no more items left in a row than its flow holds
  pub left-held : (m r : ℕ) (q : Token) → r < length d.rows
      → left_in (rows_to d m) (flow_in d r) q ≤ items_held d (suc m) (row_of d r).flow
  left-held m r q lt = left-step m r q lt (left-told m)

-- ---- from a flow to one that it holds

one-atom : (items : List Item) (k : ℕ) → k < length items → is_atom (get_or items k no_item) ≡ true → 1 ≤ count_by is_atom items
one-atom items k lt is = go (is_atom (get_or items k no_item)) is
    (get_or-le-sum_by (λ i. cond (is_atom i) 1 0) items k no_item lt)
  where
    go : (b : Bool) → b ≡ true → cond b 1 0 ≤ count_by is_atom items → 1 ≤ count_by is_atom items
    go true e le = le
    go false e le = cc

-- an atom that names a stack is one
names-atom : (item : Item) (s : ℕ) → stack_in item ≡ s ∷ [] → is_atom item ≡ true
names-atom (Atom h k) s e = refl
names-atom (Row r) s e = cc

module _ (d : FlowsData) (sound : IsSound d) where
  counts-atom : (f k : ℕ) → k < length (flow_of d f).items → is_atom (item_of (flow_of d f) k) ≡ true → 1 ≤ count_in d f
  unfolding count_in
  counts-atom f k lt is = let a = one-atom (flow_of d f).items k lt is in let b = count_by-le-length is_atom (flow_of d f).items
      in grind (arith, nat_tests)

  pub flows-row : (n f k r : ℕ) → k < length (flow_of d f).items → item_of (flow_of d f) k ≡ Row r
      → 1 + flows_held d n (row_of d r).flow ≤ flows_held d (suc n) f
  unfolding flows_held one
  flows-row n f k r lt is = held-row d one n f k r lt is

  pub flows-stack : (n f k s : ℕ) → k < length (flow_of d f).items → stack_in (item_of (flow_of d f) k) ≡ s ∷ []
      → 1 + flows_held d n (stack_of d s).flow ≤ flows_held d (suc n) f
  unfolding flows_held one
  flows-stack n f k s lt is = held-stack d one n f k s lt is

  pub flows-some : (n f : ℕ) → 1 ≤ flows_held d (suc n) f
  unfolding flows_held one
  flows-some n f = let more = held-more d one n f in omega arith

  -- the items in a row of another row are fewer, and those in a row of a stack no more
  pub items-row : (n f k r : ℕ) → k < length (flow_of d f).items → item_of (flow_of d f) k ≡ Row r
      → items_held d n (row_of d r).flow ≤ items_held d (suc n) f
  unfolding items_held
  items-row n f k r lt is = let a = held-row d (count_in d) n f k r lt is in omega arith

  pub items-inner_row : (n outer k r : ℕ) → outer < length d.rows → k < length (flow_in d outer).items
      → item_of (flow_in d outer) k ≡ Row r → 1 + items_held d n (row_of d r).flow ≤ items_held d (suc n) (row_of d outer).flow
  unfolding items_held
  items-inner_row n outer k r known lt is = let a = held-row d (count_in d) n (row_of d outer).flow k r lt is
      in let c = row-count d sound outer known in omega arith

  pub items-stack : (n f k s : ℕ) → k < length (flow_of d f).items → stack_in (item_of (flow_of d f) k) ≡ s ∷ []
      → 1 + items_held d n (stack_of d s).flow ≤ items_held d (suc n) f
  unfolding items_held
  items-stack n f k s lt is = let a = held-stack d (count_in d) n f k s lt is
      in let c = counts-atom f k lt (names-atom (item_of (flow_of d f) k) s is) in omega arith

-- the heights in a flow are its own, and those of what it holds
pub height-more : (d : FlowsData) (n f : ℕ)
    → height_held d (suc n) f ≡ flow_height d (flow_of d f)
    + (sum_by (λ r. height_held d n (row_of d r).flow) (rows_in (flow_of d f)) + sum_by (λ s. height_held d n (stack_of d s).flow)
    (stacks_in (flow_of d f)))
unfolding height_held height_of_flow
height-more d n f = held-more d (height_of_flow d) n f

pub height-rises : (d : FlowsData) (m n f : ℕ) → m ≤ n → height_held d m f ≤ height_held d n f
unfolding height_held
height-rises d m n f le = held-deeper d (height_of_flow d) m n f le

pub height-stack : (d : FlowsData) (n f k s : ℕ) → k < length (flow_of d f).items → stack_in (item_of (flow_of d f) k) ≡ s ∷ [] →
    flow_height d (flow_of d f) + (sum_by (λ r. height_held d n (row_of d r).flow) (rows_in (flow_of d f)) + height_held d n
    (stack_of d s).flow) ≤ height_held d (suc n) f
unfolding height_held height_of_flow
height-stack d n f k s lt is =
    let more = held-more d (height_of_flow d) n f in
    let first = in-list (λ s. held d (height_of_flow d) n (stack_of d s).flow) stack_in (flow_of d f).items k lt in
    let e : sum_by (λ s. held d (height_of_flow d) n (stack_of d s).flow) (stack_in (item_of (flow_of d f) k))
    ≡ held d (height_of_flow d) n (stack_of d s).flow =
    ap (λ ss. sum_by (λ s. held d (height_of_flow d) n (stack_of d s).flow) ss) is
    ∙ sum-one (λ s. held d (height_of_flow d) n (stack_of d s).flow) s in
    omega arith
