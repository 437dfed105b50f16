-- Each number of a row, a stack and a flow of a document stands once.
use Rattle.std.proofs.Common.{◌≡◌, ℕ, suc, ◌+◌, ◌-◌, ◌≤◌, List, [], ◌∷◌, ◌++◌, Bool, true, false, cond, map, eqb, refl, ap, ◌∙◌}
use Rattle.std.proofs.Common.{subst, arith}
use Rattle.std.specs.Prelude.{flat_map}
use Rattle.std.proofs.lemmas.Bool.{eqb-true, eqb-false}
use Rattle.std.proofs.lemmas.List.{map-append}
use Rattle.std.proofs.lemmas.List.Sums.{sum_by-cons, sum_by-append}
use Rattle.std.proofs.lemmas.Grind.{flat_map-append}
use Rattle.flow_data.specs.declared.data.RowInfo.{RowInfo}
use Rattle.flow_data.specs.declared.data.Stack.{Stack}
use Rattle.flow_data.specs.Flows.{row_in, rows_in}
use Rattle.flow_data.specs.Soundness.{count_of, stack_in, stacks_in}
use Rattle.box_data.specs.Content.{line, image, void, stack, row, Content, done, opens, closes, leaf, holds, spanner}
use Rattle.box_data.specs.DocumentFlows.{Begun, with_row, with_stack, next_flow, past, items_from, flows_from, rows_from}
use Rattle.box_data.specs.DocumentFlows.{stacks_from}

-- how many numbers from low on and below high are j
abbrev reached : ℕ → ℕ → ℕ
reached j low = (j + 1 - low) - (j - low)

abbrev pub between : (low high j : ℕ) → ℕ
between low high j = reached j low - reached j high

falls : (j low high : ℕ) → low ≤ high → reached j high ≤ reached j low
falls j low high le = omega arith

between-on : (low mid high j : ℕ) → low ≤ mid → mid ≤ high → between low mid j + between mid high j ≡ between low high j
between-on low mid high j le le' = let a = falls j low mid le in let b = falls j mid high le' in omega arith

between-none : (low j : ℕ) → between low low j ≡ 0
between-none low j = omega arith

pub count-one : (j k : ℕ) → count_of j (k ∷ []) ≡ between k (suc k) j
count-one j k = sum_by-cons (λ m. cond (eqb m j) 1 0) k [] ∙ go (eqb k j) refl
  where
    go : (v : Bool) → eqb k j ≡ v → cond v 1 0 + 0 ≡ between k (suc k) j
    go true e = let same = eqb-true k j e in omega arith
    go false e = let other = eqb-false k j e in omega arith

pub count-append : (j : ℕ) (ms ns : List ℕ) → count_of j (ms ++ ns) ≡ count_of j ms + count_of j ns
count-append j ms ns = sum_by-append (λ m. cond (eqb m j) 1 0) ms ns

-- ---- what has begun never falls

pub past-rows : (n : Begun) (c : Content) → n.rows ≤ (past n c).rows
past-rows n done = omega arith
past-rows n (opens p next) = past-rows n next
past-rows n (closes p next) = past-rows n next
past-rows n (leaf l next) = past-rows n next
past-rows n (holds (stack p) inside next) =
    let a = past-rows (with_stack n) inside in let b = past-rows (past (with_stack n) inside) next in omega arith
past-rows n (holds (row p x is_last opened) inside next) =
    let a = past-rows (with_row n) inside in let b = past-rows (past (with_row n) inside) next in omega arith
past-rows n (spanner inside next) = past-rows n next

pub past-stacks : (n : Begun) (c : Content) → n.stacks ≤ (past n c).stacks
past-stacks n done = omega arith
past-stacks n (opens p next) = past-stacks n next
past-stacks n (closes p next) = past-stacks n next
past-stacks n (leaf l next) = past-stacks n next
past-stacks n (holds (stack p) inside next) =
    let a = past-stacks (with_stack n) inside in let b = past-stacks (past (with_stack n) inside) next in omega arith
past-stacks n (holds (row p x is_last opened) inside next) =
    let a = past-stacks (with_row n) inside in let b = past-stacks (past (with_row n) inside) next in omega arith
past-stacks n (spanner inside next) = past-stacks n next

-- ---- rows

abbrev pub own_rows : Begun → Content → List ℕ
own_rows n c = flat_map row_in (items_from n c)

abbrev pub inner_rows : Begun → Content → List ℕ
inner_rows n c = flat_map rows_in (flows_from n c)

split_rows : (j : ℕ) (m m' : Begun) (inside next : Content) → count_of j (own_rows m inside
    ++ flat_map rows_in (flows_from m inside ++ flows_from m' next))
    ≡ count_of j (own_rows m inside) + count_of j (inner_rows m inside) + count_of j (inner_rows m' next)
split_rows j m m' inside next =
    let a = count-append j (own_rows m inside) (flat_map rows_in (flows_from m inside ++ flows_from m' next)) in
    let b : count_of j (flat_map rows_in (flows_from m inside ++ flows_from m' next))
    ≡ count_of j (inner_rows m inside) + count_of j (inner_rows m' next) =
    ap (count_of j) (flat_map-append rows_in (flows_from m inside) (flows_from m' next))
    ∙ count-append j (inner_rows m inside) (inner_rows m' next) in
    omega arith

pub rows_counted : (j : ℕ) (n : Begun) (c : Content) → count_of j (own_rows n c) + count_of j (inner_rows n c)
    ≡ between n.rows (past n c).rows j
rows_counted j n done = omega arith
rows_counted j n (opens p next) = rows_counted j n next
rows_counted j n (closes p next) = rows_counted j n next
rows_counted j n (leaf (line p index size) next) = rows_counted j n next
rows_counted j n (leaf (image p) next) = rows_counted j n next
rows_counted j n (leaf (void p x) next) = rows_counted j n next
rows_counted j n (holds (stack p) inside next) =
    let m = with_stack n in
    let m' = past m inside in
    let a = rows_counted j m inside in
    let b = rows_counted j m' next in
    let s = split_rows j m m' inside next in
    let on = between-on m.rows m'.rows (past m' next).rows j (past-rows m inside) (past-rows m' next) in
    omega arith
rows_counted j n (holds (row p x is_last opened) inside next) =
    let m = with_row n in
    let m' = past m inside in
    let a = rows_counted j m inside in
    let b = rows_counted j m' next in
    let s = split_rows j m m' inside next in
    let one = count-one j n.rows in
    let first = count-append j (n.rows ∷ []) (own_rows m' next) in
    let le = past-rows m inside in
    let le' = past-rows m' next in
    let on = between-on m.rows m'.rows (past m' next).rows j le le' in
    let on' = between-on n.rows m.rows (past m' next).rows j (omega arith) (omega arith) in
    omega arith
rows_counted j n (spanner inside next) = rows_counted j n next

-- ---- flows

abbrev pub row_flows : Begun → Bool → Content → List ℕ
row_flows n in_stack c = map (λ (r : RowInfo). r.flow) (rows_from n in_stack c)

abbrev pub stack_flows : Begun → Content → List ℕ
stack_flows n c = map (λ (s : Stack). s.flow) (stacks_from n c)

split_flows : {A : Type 0} → (j : ℕ) (f : A → ℕ) (xs ys : List A)
    → count_of j (map f (xs ++ ys)) ≡ count_of j (map f xs) + count_of j (map f ys)
split_flows j f xs ys = ap (count_of j) (map-append f xs ys) ∙ count-append j (map f xs) (map f ys)

pub flows_counted : (j : ℕ) (n : Begun) (in_stack : Bool) (c : Content)
    → count_of j (row_flows n in_stack c) + count_of j (stack_flows n c) ≡ between (next_flow n) (next_flow (past n c)) j
flows_counted j n in_stack done = omega arith
flows_counted j n in_stack (opens p next) = flows_counted j n in_stack next
flows_counted j n in_stack (closes p next) = flows_counted j n in_stack next
flows_counted j n in_stack (leaf l next) = flows_counted j n in_stack next
flows_counted j n in_stack (holds (stack p) inside next) =
    let m = with_stack n in
    let m' = past m inside in
    let a = flows_counted j m true inside in
    let b = flows_counted j m' in_stack next in
    let r = split_flows j (λ (r : RowInfo). r.flow) (rows_from m true inside) (rows_from m' in_stack next) in
    let s = split_flows j (λ (s : Stack). s.flow) (stacks_from m inside) (stacks_from m' next) in
    let one = count-one j (next_flow n) in
    let first = count-append j (next_flow n ∷ []) (map (λ (s : Stack). s.flow) (stacks_from m inside ++ stacks_from m' next)) in
    let r1 = past-rows m inside in let r2 = past-rows m' next in
    let s1 = past-stacks m inside in let s2 = past-stacks m' next in
    let on = between-on (next_flow m) (next_flow m') (next_flow (past m' next)) j (omega arith) (omega arith) in
    let on' = between-on (next_flow n) (suc (next_flow n)) (next_flow (past m' next)) j (omega arith) (omega arith) in
    let same : next_flow m ≡ suc (next_flow n) = omega arith in
    let base = subst (λ (k : ℕ). between k (next_flow m') j + between (next_flow m') (next_flow (past m' next)) j
    ≡ between k (next_flow (past m' next)) j) same on in
    let a' = subst (λ (k : ℕ). count_of j (row_flows m true inside) + count_of j (stack_flows m inside)
    ≡ between k (next_flow m') j) same a in
    omega arith
flows_counted j n in_stack (holds (row p x is_last opened) inside next) =
    let m = with_row n in
    let m' = past m inside in
    let a = flows_counted j m false inside in
    let b = flows_counted j m' in_stack next in
    let r = split_flows j (λ (r : RowInfo). r.flow) (rows_from m false inside) (rows_from m' in_stack next) in
    let s = split_flows j (λ (s : Stack). s.flow) (stacks_from m inside) (stacks_from m' next) in
    let one = count-one j (next_flow n) in
    let first = count-append j (next_flow n ∷ []) (map (λ (r : RowInfo). r.flow) (rows_from m false inside
    ++ rows_from m' in_stack next)) in
    let r1 = past-rows m inside in let r2 = past-rows m' next in
    let s1 = past-stacks m inside in let s2 = past-stacks m' next in
    let on = between-on (next_flow m) (next_flow m') (next_flow (past m' next)) j (omega arith) (omega arith) in
    let on' = between-on (next_flow n) (suc (next_flow n)) (next_flow (past m' next)) j (omega arith) (omega arith) in
    let same : next_flow m ≡ suc (next_flow n) = omega arith in
    let base = subst (λ (k : ℕ). between k (next_flow m') j + between (next_flow m') (next_flow (past m' next)) j
    ≡ between k (next_flow (past m' next)) j) same on in
    let a' = subst (λ (k : ℕ). count_of j (row_flows m false inside) + count_of j (stack_flows m inside)
    ≡ between k (next_flow m') j) same a in
    omega arith
flows_counted j n in_stack (spanner inside next) = flows_counted j n in_stack next

-- ---- stacks

abbrev pub own_stacks : Begun → Content → List ℕ
own_stacks n c = flat_map stack_in (items_from n c)

abbrev pub inner_stacks : Begun → Content → List ℕ
inner_stacks n c = flat_map stacks_in (flows_from n c)

split_stacks : (j : ℕ) (m m' : Begun) (inside next : Content)
    → count_of j (own_stacks m inside ++ flat_map stacks_in (flows_from m inside ++ flows_from m' next))
    ≡ count_of j (own_stacks m inside) + count_of j (inner_stacks m inside) + count_of j (inner_stacks m' next)
split_stacks j m m' inside next =
    let a = count-append j (own_stacks m inside) (flat_map stacks_in (flows_from m inside ++ flows_from m' next)) in
    let b : count_of j (flat_map stacks_in (flows_from m inside ++ flows_from m' next))
    ≡ count_of j (inner_stacks m inside) + count_of j (inner_stacks m' next) =
    ap (count_of j) (flat_map-append stacks_in (flows_from m inside) (flows_from m' next))
    ∙ count-append j (inner_stacks m inside) (inner_stacks m' next) in
    omega arith

pub stacks_counted : (j : ℕ) (n : Begun) (c : Content) → count_of j (own_stacks n c) + count_of j (inner_stacks n c)
    ≡ between n.stacks (past n c).stacks j
stacks_counted j n done = omega arith
stacks_counted j n (opens p next) = stacks_counted j n next
stacks_counted j n (closes p next) = stacks_counted j n next
stacks_counted j n (leaf (line p index size) next) = stacks_counted j n next
stacks_counted j n (leaf (image p) next) = stacks_counted j n next
stacks_counted j n (leaf (void p x) next) = stacks_counted j n next
stacks_counted j n (holds (row p x is_last opened) inside next) =
    let m = with_row n in
    let m' = past m inside in
    let a = stacks_counted j m inside in
    let b = stacks_counted j m' next in
    let s = split_stacks j m m' inside next in
    let on = between-on m.stacks m'.stacks (past m' next).stacks j (past-stacks m inside) (past-stacks m' next) in
    omega arith
stacks_counted j n (holds (stack p) inside next) =
    let m = with_stack n in
    let m' = past m inside in
    let a = stacks_counted j m inside in
    let b = stacks_counted j m' next in
    let s = split_stacks j m m' inside next in
    let one = count-one j n.stacks in
    let first = count-append j (n.stacks ∷ []) (own_stacks m' next) in
    let le = past-stacks m inside in
    let le' = past-stacks m' next in
    let on = between-on m.stacks m'.stacks (past m' next).stacks j le le' in
    let on' = between-on n.stacks m.stacks (past m' next).stacks j (omega arith) (omega arith) in
    omega arith
stacks_counted j n (spanner inside next) = stacks_counted j n next
