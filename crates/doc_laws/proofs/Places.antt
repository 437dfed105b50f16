-- Where the rows, stacks and flows of a document stand in its data: each at its number, before those within it.
use Rattle.std.proofs.Common.{◌≡◌, ℕ, suc, ◌+◌, List, [], ◌∷◌, ◌++◌, Bool, true, false, length, drop, refl, sym, ap, ◌∙◌, subst}
use Rattle.std.proofs.Common.{arith, append_assoc, length-append}
use Rattle.flow_data.specs.declared.data.Flow.{Flow}
use Rattle.flow_data.specs.declared.data.FlowsData.{FlowsData}
use Rattle.flow_data.specs.declared.data.RowInfo.{RowInfo}
use Rattle.flow_data.specs.declared.data.Stack.{Stack}
use Rattle.flow_data.specs.Flows as parts
use Rattle.box_data.specs.Content.{Holder, stack, row, Content, done, opens, closes, leaf, holds, spanner}
use Rattle.box_data.specs.DocumentFlows.{Begun, with_row, with_stack, next_flow, begun_in, past, opened_in, flow_with, flows_from}
use Rattle.box_data.specs.DocumentFlows.{is_stack, row_of, rows_from, stack_of, stacks_from}
use Rattle.flow_data.proofs.Dropped.{first_at, behind_first, behind_front}

-- a holder at its number
abbrev pub HolderAt : FlowsData → Begun → Bool → Holder → Type 0
HolderAt d n in_stack (stack p) = stack_of n (stack p) ≡ parts.stack_of d n.stacks ∷ []
HolderAt d n in_stack (row p x is_last opened) = row_of n in_stack (row p x is_last opened) ≡ parts.row_of d n.rows ∷ []

abbrev pub ArePlaced : FlowsData → Begun → Bool → Content → Type 0
ArePlaced d n in_stack done = Unit {0}
ArePlaced d n in_stack (opens p next) = ArePlaced d n in_stack next
ArePlaced d n in_stack (closes p next) = ArePlaced d n in_stack next
ArePlaced d n in_stack (leaf l next) = ArePlaced d n in_stack next
ArePlaced d n in_stack (holds h inside next) =
    HolderAt d n in_stack h
    × (parts.flow_of d (next_flow n) ≡ flow_with (opened_in h) (begun_in n h) inside)
    × ArePlaced d (begun_in n h) (is_stack h) inside
    × ArePlaced d (past (begun_in n h) inside) in_stack next
ArePlaced d n in_stack (spanner inside next) = ArePlaced d n in_stack next

pub length-rows : (n : Begun) (in_stack : Bool) (c : Content) → n.rows + length (rows_from n in_stack c) ≡ (past n c).rows
length-rows n in_stack done = omega arith
length-rows n in_stack (opens p next) = length-rows n in_stack next
length-rows n in_stack (closes p next) = length-rows n in_stack next
length-rows n in_stack (leaf l next) = length-rows n in_stack next
length-rows n in_stack (holds (stack p) inside next) =
    let m = with_stack n in
    let a = length-rows m true inside in let b = length-rows (past m inside) in_stack next in
    let both = length-append (rows_from m true inside) (rows_from (past m inside) in_stack next) in omega arith
length-rows n in_stack (holds (row p x is_last opened) inside next) =
    let m = with_row n in
    let a = length-rows m false inside in let b = length-rows (past m inside) in_stack next in
    let both = length-append (rows_from m false inside) (rows_from (past m inside) in_stack next) in omega arith
length-rows n in_stack (spanner inside next) = length-rows n in_stack next

pub length-stacks : (n : Begun) (c : Content) → n.stacks + length (stacks_from n c) ≡ (past n c).stacks
length-stacks n done = omega arith
length-stacks n (opens p next) = length-stacks n next
length-stacks n (closes p next) = length-stacks n next
length-stacks n (leaf l next) = length-stacks n next
length-stacks n (holds (stack p) inside next) =
    let m = with_stack n in
    let a = length-stacks m inside in let b = length-stacks (past m inside) next in
    let both = length-append (stacks_from m inside) (stacks_from (past m inside) next) in omega arith
length-stacks n (holds (row p x is_last opened) inside next) =
    let m = with_row n in
    let a = length-stacks m inside in let b = length-stacks (past m inside) next in
    let both = length-append (stacks_from m inside) (stacks_from (past m inside) next) in omega arith
length-stacks n (spanner inside next) = length-stacks n next

pub length-flows : (n : Begun) (c : Content) → next_flow n + length (flows_from n c) ≡ next_flow (past n c)
length-flows n done = omega arith
length-flows n (opens p next) = length-flows n next
length-flows n (closes p next) = length-flows n next
length-flows n (leaf l next) = length-flows n next
length-flows n (holds (stack p) inside next) =
    let m = with_stack n in
    let a = length-flows m inside in let b = length-flows (past m inside) next in
    let both = length-append (flows_from m inside) (flows_from (past m inside) next) in omega arith
length-flows n (holds (row p x is_last opened) inside next) =
    let m = with_row n in
    let a = length-flows m inside in let b = length-flows (past m inside) next in
    let both = length-append (flows_from m inside) (flows_from (past m inside) next) in omega arith
length-flows n (spanner inside next) = length-flows n next

-- the list after a front, at a number that is told
behind : {X : Type 0} (xs front ys : List X) (k m : ℕ) → k + length front ≡ m → drop k xs ≡ front ++ ys → drop m xs ≡ ys
behind {X} xs front ys k m same e = subst (λ (i : ℕ). drop i xs ≡ ys) same (behind_front xs front ys k (length front) refl e)

pub are_placed : (d : FlowsData) (n : Begun) (in_stack : Bool) (c : Content) (fs : List Flow) (rs : List RowInfo)
    (ss : List Stack)
    → drop (next_flow n) d.flows ≡ flows_from n c ++ fs → drop n.rows d.rows ≡ rows_from n in_stack c ++ rs
    → drop n.stacks d.stacks ≡ stacks_from n c ++ ss → ArePlaced d n in_stack c
are_placed d n in_stack done fs rs ss flows rows stacks = tt
are_placed d n in_stack (opens p next) fs rs ss flows rows stacks = are_placed d n in_stack next fs rs ss flows rows stacks
are_placed d n in_stack (closes p next) fs rs ss flows rows stacks = are_placed d n in_stack next fs rs ss flows rows stacks
are_placed d n in_stack (leaf l next) fs rs ss flows rows stacks = are_placed d n in_stack next fs rs ss flows rows stacks
are_placed d n in_stack (holds (stack p) inside next) fs rs ss flows rows stacks =
    let m = with_stack n in
    let m' = past m inside in
    let f1 = flows_from m inside in
    let f2 = flows_from m' next in
    let r1 = rows_from m true inside in
    let r2 = rows_from m' in_stack next in
    let s1 = stacks_from m inside in
    let s2 = stacks_from m' next in
    let own = flow_with [] m inside in
    let at : suc (next_flow n) ≡ next_flow m = omega arith in
    let inner_flows : drop (next_flow m) d.flows ≡ f1 ++ (f2 ++ fs) =
    subst (λ (i : ℕ). drop i d.flows ≡ f1 ++ (f2 ++ fs)) at (behind_first d.flows ((f1 ++ f2) ++ fs) (next_flow n) own flows
    ∙ append_assoc f1 f2 fs) in
    let inner_rows : drop m.rows d.rows ≡ r1 ++ (r2 ++ rs) = rows ∙ append_assoc r1 r2 rs in
    let inner_stacks : drop m.stacks d.stacks ≡ s1 ++ (s2 ++ ss) =
    behind_first d.stacks ((s1 ++ s2) ++ ss) n.stacks _ stacks ∙ append_assoc s1 s2 ss in (
      ap (λ (s : Stack). s ∷ []) (sym (first_at d.stacks ((s1 ++ s2) ++ ss) n.stacks _ parts.no_stack stacks)),
      first_at d.flows ((f1 ++ f2) ++ fs) (next_flow n) own parts.no_flow flows,
      are_placed d m true inside (f2 ++ fs) (r2 ++ rs) (s2 ++ ss) inner_flows inner_rows inner_stacks,
      are_placed d m' in_stack next fs rs ss
          (behind d.flows f1 (f2 ++ fs) (next_flow m) (next_flow m') (length-flows m inside) inner_flows)
          (behind d.rows r1 (r2 ++ rs) m.rows m'.rows (length-rows m true inside) inner_rows)
          (behind d.stacks s1 (s2 ++ ss) m.stacks m'.stacks (length-stacks m inside) inner_stacks),
    )
are_placed d n in_stack (holds (row p x is_last opened) inside next) fs rs ss flows rows stacks =
    let m = with_row n in
    let m' = past m inside in
    let f1 = flows_from m inside in
    let f2 = flows_from m' next in
    let r1 = rows_from m false inside in
    let r2 = rows_from m' in_stack next in
    let s1 = stacks_from m inside in
    let s2 = stacks_from m' next in
    let own = flow_with opened m inside in
    let at : suc (next_flow n) ≡ next_flow m = omega arith in
    let inner_flows : drop (next_flow m) d.flows ≡ f1 ++ (f2 ++ fs) =
    subst (λ (i : ℕ). drop i d.flows ≡ f1 ++ (f2 ++ fs)) at (behind_first d.flows ((f1 ++ f2) ++ fs) (next_flow n) own flows
    ∙ append_assoc f1 f2 fs) in
    let inner_rows : drop m.rows d.rows ≡ r1 ++ (r2 ++ rs) = behind_first d.rows ((r1 ++ r2) ++ rs) n.rows _ rows
    ∙ append_assoc r1 r2 rs in
    let inner_stacks : drop m.stacks d.stacks ≡ s1 ++ (s2 ++ ss) = stacks ∙ append_assoc s1 s2 ss in (
      ap (λ (r : RowInfo). r ∷ []) (sym (first_at d.rows ((r1 ++ r2) ++ rs) n.rows _ parts.no_row rows)),
      first_at d.flows ((f1 ++ f2) ++ fs) (next_flow n) own parts.no_flow flows,
      are_placed d m false inside (f2 ++ fs) (r2 ++ rs) (s2 ++ ss) inner_flows inner_rows inner_stacks,
      are_placed d m' in_stack next fs rs ss
          (behind d.flows f1 (f2 ++ fs) (next_flow m) (next_flow m') (length-flows m inside) inner_flows)
          (behind d.rows r1 (r2 ++ rs) m.rows m'.rows (length-rows m false inside) inner_rows)
          (behind d.stacks s1 (s2 ++ ss) m.stacks m'.stacks (length-stacks m inside) inner_stacks),
    )
are_placed d n in_stack (spanner inside next) fs rs ss flows rows stacks = are_placed d n in_stack next fs rs ss flows rows stacks
