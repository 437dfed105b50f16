-- Where flows stand in a tree: from one to the flow of a row or of a stack in it, each place is bounded by what the flow holds.
use Rattle.std.proofs.Common.{◌≡◌, ℕ, zero, suc, ◌+◌, ◌-◌, ◌*◌, ◌<◌, ◌≤◌, ◌^◌, List, [], ◌∷◌, ◌++◌, length, get_or, subst, ap}
use Rattle.std.proofs.Common.{arith, length-append}
use Rattle.std.specs.Prelude.{All}
use Rattle.std.specs.List.{flat_map}
use Rattle.std.proofs.Math.Nat.{mul-le-mul}
use Rattle.std.proofs.lemmas.List.{get_or_append_left, get_or-append-add}
use Rattle.flow_list.specs.Data.{FlowsData, Item, Bounded, Atom, Row}
use Rattle.flow_data.specs.Flows.{row_of, stack_of, flow_of, flow_in, item_of, no_item, no_row, no_flow}
use Rattle.flow_data.specs.Soundness.{IsSound, IsSoundItem, Held, held_in, item_x, stack_in, FitsAcross}
use Rattle.flow_laws.proofs.HeldSums.{flows_held, items_held, height_held, flows-le, items-le, heights-le, flows-some, flows-row}
use Rattle.flow_laws.proofs.HeldSums.{flows-stack, items-row, items-inner_row, items-stack}

-- ---- what is so of all that items hold

part-left : (P : Held → Type 0) (xs ys : List Held) → All P (xs ++ ys) → All P xs
part-left P xs ys all k e lt = subst P (get_or_append_left xs ys e k lt) (all k e (omega (arith, length-append xs ys)))

part-right : (P : Held → Type 0) (xs ys : List Held) → All P (xs ++ ys) → All P ys
part-right P xs ys all k e lt = subst P (get_or-append-add xs ys k e) (all (length xs + k) e (omega (arith, length-append xs ys)))

of-item : (P : Held → Type 0) (of : Item → List Held) (items : List Item) (k : ℕ) → k < length items → All P (flat_map of items)
    → All P (of (get_or items k no_item))
of-item P of [] k lt all = absurd (omega arith)
of-item P of (x ∷ items) zero lt all = part-left P (of x) (flat_map of items) all
of-item P of (x ∷ items) (suc k) lt all = of-item P of items k (omega arith) (part-right P (of x) (flat_map of items) all)

one-held : (P : Held → Type 0) (xs : List Held) (h : Held) → xs ≡ h ∷ [] → All P xs → P h
one-held P xs h is all = let Q : List Held → Type 0 = λ xs. All P xs in subst Q is all 0 h (omega arith)

module _ (d : FlowsData) (sound : IsSound d) where
  -- Flow f stands at x and y. From the left it is where its data says, and further right by less than 2^42 for each row around
  -- it; spare is 1 in a stack and 0 in a row.
  pub record Stands (f spare x y : ℕ) : Type 0 where
    pub left : ℕ
    pub around : ℕ
    pub deep : ℕ
    pub low : left < 2 ^ 60
    pub x_is : x ≤ left + around * 2 ^ 42
    pub across : FitsAcross d deep left f
    pub flows : (n : ℕ) → flows_held d n f ≤ deep
    pub items : (n : ℕ) → around + 2 * items_held d n f + spare ≤ 200001
    pub rows : (n k r : ℕ) → k < length (flow_of d f).items → item_of (flow_of d f) k ≡ Row r
        → 2 * items_held d n (row_of d r).flow + 1 ≤ 2 * items_held d (suc n) f + spare
    pub heights : (n : ℕ) → y + height_held d n f < 2 ^ 60

  stack-rows : (f n k r : ℕ) → k < length (flow_of d f).items → item_of (flow_of d f) k ≡ Row r
      → 2 * items_held d n (row_of d r).flow + 1 ≤ 2 * items_held d (suc n) f + 1
  stack-rows f n k r lt is = let a = items-row d sound n f k r lt is in omega arith

  row-rows : (outer : ℕ) → outer < length d.rows → (n k r : ℕ) → k < length (flow_in d outer).items
      → item_of (flow_in d outer) k ≡ Row r
      → 2 * items_held d n (row_of d r).flow + 1 ≤ 2 * items_held d (suc n) (row_of d outer).flow + 0
  row-rows outer known n k r lt is = let a = items-inner_row d sound n outer k r known lt is in omega arith

  pub row-known : (f k r : ℕ) → f < length d.flows → k < length (flow_of d f).items → item_of (flow_of d f) k ≡ Row r
      → r < length d.rows
  row-known f k r known lt is =
      let item : IsSoundItem d (item_of (flow_of d f) k) = (sound.flows f no_flow known).items k no_item lt in
      let P : Item → Type 0 = λ i. IsSoundItem d i in
      subst P is item

  pub first-stands : 0 < length d.stacks → Stands (stack_of d 0).flow 1 0 0
  first-stands some = record {
    left = 0;
    around = 0;
    deep = length d.flows;
    low = omega arith;
    x_is = omega arith;
    across = sound.across;
    flows = flows-le d sound some;
    items = λ n. let a = items-le d sound some n in omega arith;
    rows = stack-rows (stack_of d 0).flow;
    heights = λ n. let a = heights-le d sound some n in omega arith;
  }

  pub x-small : (f spare x y : ℕ) → Stands f spare x y → x < 2 ^ 61
  x-small f spare x y s = let a = s.x_is in let b = s.low in let c = s.items 0 in omega arith

  -- from a flow to that of a row in it, in column i of the row
  pub row-stands : (f spare x y k r i z more : ℕ) → Stands f spare x y → k < length (flow_of d f).items
      → item_of (flow_of d f) k ≡ Row r → r < length d.rows → i < 2 ^ 17 →
      ((n : ℕ) → z + height_held d n (row_of d r).flow ≤ height_held d (suc (n + more)) f)
      → Stands (row_of d r).flow 0 (x + (row_of d r).x + i * (row_of d r).step) (y + z)
  row-stands f spare x y k r i z more s lt is known column fits = go s.deep s.across s.flows
    where
      go : (deep : ℕ) → FitsAcross d deep s.left f → ((n : ℕ) → flows_held d n f ≤ deep)
          → Stands (row_of d r).flow 0 (x + (row_of d r).x + i * (row_of d r).step) (y + z)
      go zero across flows = absurd (let a = flows zero in let b = flows (suc zero) in let c = flows-some d sound zero f
          in omega arith)
      go (suc deep) across flows =
          let row = sound.rows r no_row known in
          let far = mul-le-mul {n₁ = i} {m₁ = (row_of d r).step} {n₂ = 2 ^ 17 - 1} {m₂ = 2 ^ 25} (omega arith) row.step_limit in
          let P : Item → Type 0 = λ item. s.left + item_x d item < 2 ^ 60 in
          let low : s.left + (row_of d r).x < 2 ^ 60 = subst P is (across.1 k no_item lt) in
          record {
            left = s.left + (row_of d r).x;
            around = s.around + 1;
            deep = deep;
            low = low;
            x_is = let a = s.x_is in omega arith;
            across = one-held (λ h. FitsAcross d deep (s.left + h.x) h.flow) (held_in d (item_of (flow_of d f) k)) _
                (ap (held_in d) is) (of-item (λ h. FitsAcross d deep (s.left + h.x) h.flow) (held_in d) (flow_of d f).items k lt
                across.2);
            flows = λ n. let a = flows-row d sound n f k r lt is in let b = flows (suc n) in omega arith;
            items = λ n. let a = s.rows n k r lt is in let b = s.items (suc n) in omega arith;
            rows = row-rows r known;
            heights = λ n. let a = fits n in let b = s.heights (suc (n + more)) in omega arith;
          }

  -- from a flow to that of the stack that one of its atoms names
  pub stack-stands : (f spare x y k height owner named left z more : ℕ) → Stands f spare x y → k < length (flow_of d f).items
      → item_of (flow_of d f) k ≡ Atom height (Bounded owner named left) →
      ((n : ℕ) → z + height_held d n (stack_of d named).flow ≤ height_held d (suc (n + more)) f)
      → Stands (stack_of d named).flow 1 (x + left) (y + z)
  stack-stands f spare x y k height owner named left z more s lt is fits = go s.deep s.across s.flows
    where
      names : stack_in (item_of (flow_of d f) k) ≡ named ∷ []
      names = ap stack_in is

      go : (deep : ℕ) → FitsAcross d deep s.left f → ((n : ℕ) → flows_held d n f ≤ deep)
          → Stands (stack_of d named).flow 1 (x + left) (y + z)
      go zero across flows = absurd (let a = flows zero in let b = flows (suc zero) in let c = flows-some d sound zero f
          in omega arith)
      go (suc deep) across flows =
          let P : Item → Type 0 = λ item. s.left + item_x d item < 2 ^ 60 in
          let low : s.left + left < 2 ^ 60 = subst P is (across.1 k no_item lt) in
          record {
            left = s.left + left;
            around = s.around;
            deep = deep;
            low = low;
            x_is = let a = s.x_is in omega arith;
            across = one-held (λ h. FitsAcross d deep (s.left + h.x) h.flow) (held_in d (item_of (flow_of d f) k)) _
                (ap (held_in d) is) (of-item (λ h. FitsAcross d deep (s.left + h.x) h.flow) (held_in d) (flow_of d f).items k lt
                across.2);
            flows = λ n. let a = flows-stack d sound n f k named lt names in let b = flows (suc n) in omega arith;
            items = λ n. let a = items-stack d sound n f k named lt names in let b = s.items (suc n) in omega arith;
            rows = stack-rows (stack_of d named).flow;
            heights = λ n. let a = fits n in let b = s.heights (suc (n + more)) in omega arith;
          }
