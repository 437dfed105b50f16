-- The items, the flows and the rows of a document are sound.
use Rattle.std.proofs.Common.{◌≡◌, ℕ, zero, suc, ◌+◌, ◌^◌, ◌<◌, ◌≤◌, List, [], ◌∷◌, ◌++◌, length, map, Bool, true, false, Some}
use Rattle.std.proofs.Common.{sym, ap, subst, arith, All}
use Rattle.std.specs.Prelude.{reverse, flat_map, slice_get}
use Rattle.std.specs.List.{AllByRecursion}
use Rattle.std.proofs.lemmas.List.Elements.{All-from_recursion}
use Rattle.std.proofs.lemmas.Grind.{flat_map-append}
use Rattle.flow_data.specs.declared.data.FlowsData.{FlowsData}
use Rattle.flow_data.specs.declared.data.Stack.{Stack}
use Rattle.flow_data.specs.Flows as parts
use Rattle.flow_data.specs.Flows.{atom_height}
use Rattle.flow_data.specs.Soundness.{IsSoundItem, IsSoundSeam, IsSoundFlow, IsSoundRow}
use Rattle.line_breaker.specs.declared.line.Line.{Line}
use Rattle.box_data.specs.declared.placed.Placed.{Placed}
use Rattle.box_data.specs.Content.{Leaf, line, image, void, Holder, stack, row, Content, done, opens, closes, leaf, holds}
use Rattle.box_data.specs.Content.{spanner}
use Rattle.box_data.specs.DocumentFlows.{Begun, with_row, with_stack, begun_in, past, leaf_item, holder_item, items_from}
use Rattle.box_data.specs.DocumentFlows.{opened_in, flow_with, flows_from, is_stack, rows_from, first_seam, seams_behind}
use Rattle.box_data.specs.Limits.{item_count}
use Rattle.doc_laws.proofs.Lists.{join_all, split_all}
use Rattle.doc_laws.proofs.GoodFlows.{IsGood}
use Rattle.doc_laws.proofs.Everywhere.{InLeaf}
use Rattle.doc_laws.proofs.Reach.{leaf_x, holder_x}
use Rattle.doc_laws.proofs.Counted.{past-rows, past-stacks}
use Rattle.doc_laws.proofs.Cloned.{sound_seams, sound_first}
use Rattle.doc_laws.proofs.Across.{same_head}
use Rattle.doc_laws.proofs.Totals.{all_items, length-items}
use Rattle.doc_laws.proofs.Low.{AreLow}
use Rattle.doc_laws.proofs.Heights.{flow_atoms}
use Rattle.doc_laws.proofs.Sure.{IsSure, Sure, past_opens, past_closes, past_leaf, past_spanner, past_holder, within_holder}
use Rattle.doc_laws.proofs.Sure.{sure_known}

-- ---- items

one_owner : (d : FlowsData) (b : ℕ) → b < length d.boxes → All (λ b. b < length d.boxes) (b ∷ [])
one_owner d b lt = All-from_recursion (λ b. b < length d.boxes) (b ∷ []) (lt, tt)

some_line : (a b : Line) → Some a ≡ Some b → a ≡ b
some_line a b e = cc

line_width : (ls : List Line) (k : ℕ) (l : Line) → AllByRecursion (λ (x : Line). x.w < 2 ^ 60) ls → slice_get ls k ≡ Some l
    → l.w < 2 ^ 60
line_width [] k l h e = absurd cc
line_width (x ∷ ls) zero l h e = subst (λ (y : Line). y.w < 2 ^ 60) (some_line x l e) h.0
line_width (x ∷ ls) (suc k) l h e = line_width ls k l h.1 e

sound_leaf : (d : FlowsData) (left : ℕ) (l : Leaf) → InLeaf (IsSure d) l → left + leaf_x l < 2 ^ 60
    → atom_height (leaf_item l) ≤ 2 ^ 24 → IsSoundItem d (leaf_item l)
sound_leaf d left (line p index size) h near low = record {
  height_limit = low;
  owners = one_owner d p.number h.0.number;
  x_limit = omega arith;
  w_limit = line_width p.lines index size h.0.lines h.1;
  stack = tt;
}
sound_leaf d left (image p) h near low = record {
  height_limit = low;
  owners = one_owner d p.number h.number;
  x_limit = omega arith;
  w_limit = omega (arith, h.small.lengths.1.1.1.1.1.1.1.1.0);
  stack = tt;
}
sound_leaf d left (void p x) h near low = record {
  height_limit = low;
  owners = one_owner d p.number h.number;
  x_limit = omega arith;
  w_limit = omega (arith, h.small.lengths.1.1.1.1.1.1.1.1.0);
  stack = tt;
}

sound_holder : (d : FlowsData) (n : Begun) (in_stack : Bool) (left : ℕ) (i : Holder) (inside next : Content)
    → Sure d n in_stack left (holds i inside next) → atom_height (holder_item n i) ≤ 2 ^ 24
    → IsSoundItem d (holder_item n i)
sound_holder d n in_stack left (stack p) inside next h low =
    let at = same_head _ (parts.stack_of d n.stacks) h.placed.0 in
    let a = past-stacks (with_stack n) inside in
    let b = past-stacks (past (with_stack n) inside) next in
    let c = h.stacks in
    let x = h.reaches.0 in
    record {
      height_limit = low;
      owners = one_owner d p.number h.boxes.0.number;
      x_limit = omega arith;
      w_limit = omega arith;
      stack = (omega arith, ap (λ (s : Stack). s.bound) (sym at));
    }
sound_holder d n in_stack left (row p x is_last opened) inside next h low =
    let a = past-rows (with_row n) inside in
    let b = past-rows (past (with_row n) inside) next in
    let c = h.rows in
    omega arith

sound_items : (d : FlowsData) (n : Begun) (in_stack : Bool) (left : ℕ) (c : Content) → Sure d n in_stack left c
    → AreLow (map atom_height (items_from n c)) → AllByRecursion (IsSoundItem d) (items_from n c)
sound_items d n in_stack left done h low = tt
sound_items d n in_stack left (opens p next) h low = sound_items d n in_stack left next
    (past_opens d n in_stack left p next h) low
sound_items d n in_stack left (closes p next) h low = sound_items d n in_stack left next
    (past_closes d n in_stack left p next h) low
sound_items d n in_stack left (leaf l next) h low = (
  sound_leaf d left l h.boxes.0 h.reaches.0 low.0,
  sound_items d n in_stack left next
      (past_leaf d n in_stack left l next h) low.1,
)
sound_items d n in_stack left (holds i inside next) h low = (
  sound_holder d n in_stack left i inside next h low.0,
  sound_items d (past (begun_in n i) inside) in_stack left next
      (past_holder d n in_stack left i inside next h) low.1,
)
sound_items d n in_stack left (spanner inside next) h low = sound_items d n in_stack left next
    (past_spanner d n in_stack left inside next h) low

-- ---- flows

own-all : (c : Content) → item_count c ≤ all_items c
own-all done = omega arith
own-all (opens p next) = own-all next
own-all (closes p next) = own-all next
own-all (leaf l next) = omega (arith, own-all next)
own-all (holds i inside next) = omega (arith, own-all next)
own-all (spanner inside next) = own-all next

pub sound_flow : (d : FlowsData) (opened : List Placed) (n : Begun) (in_stack : Bool) (left : ℕ) (c : Content) (top : ℕ)
    → top ≤ length d.boxes → Sure d n in_stack left c → IsGood top (flow_with opened n c)
    → AreLow (map atom_height (items_from n c)) → IsSoundFlow d (flow_with opened n c)
sound_flow d opened n in_stack left c top le h good low =
    let count = length-items n c in
    let few = own-all c in
    let items = h.items in
    let known = sure_known d c h.boxes in
    record {
      count = omega arith;
      items = All-from_recursion (IsSoundItem d) (items_from n c) (sound_items d n in_stack left c h low);
      seam_count = good.seam_count;
      seams = All-from_recursion (IsSoundSeam d) (first_seam c ∷ seams_behind (reverse opened) c) (
        sound_first d c known,
        sound_seams d (reverse opened) c known,
      );
      boxes = λ i e lt. (let b = good.boxes.boxes i e lt in omega arith);
      distinct = good.boxes.distinct;
      nested = good.nested;
      filled = good.boxes.filled;
    }

pub sound_flows : (d : FlowsData) (n : Begun) (in_stack : Bool) (left : ℕ) (c : Content) (top : ℕ) → top ≤ length d.boxes
    → Sure d n in_stack left c → AllByRecursion (IsGood top) (flows_from n c)
    → AreLow (flat_map flow_atoms (flows_from n c)) → AllByRecursion (IsSoundFlow d) (flows_from n c)
sound_flows d n in_stack left done top le h good low = tt
sound_flows d n in_stack left (opens p next) top le h good low =
    sound_flows d n in_stack left next top le (past_opens d n in_stack left p next h) good low
sound_flows d n in_stack left (closes p next) top le h good low =
    sound_flows d n in_stack left next top le (past_closes d n in_stack left p next h) good low
sound_flows d n in_stack left (leaf l next) top le h good low =
    sound_flows d n in_stack left next top le (past_leaf d n in_stack left l next h) good low
sound_flows d n in_stack left (holds i inside next) top le h good low =
    let m = begun_in n i in
    let m' = past m inside in
    let lows = split_all (λ k. k ≤ 2 ^ 24) (map atom_height (items_from m inside))
    (flat_map flow_atoms (flows_from m inside ++ flows_from m' next)) low in
    let rest = split_all (λ k. k ≤ 2 ^ 24) (flat_map flow_atoms (flows_from m inside)) (flat_map flow_atoms (flows_from m' next))
    (subst (λ (ns : List ℕ). AreLow ns) (flat_map-append flow_atoms (flows_from m inside) (flows_from m' next)) lows.1) in
    let goods = split_all (IsGood top) (flow_with (opened_in i) m inside ∷ flows_from m inside) (flows_from m' next) good in
    let w = within_holder d n in_stack left i inside next h in
    join_all (IsSoundFlow d) (flow_with (opened_in i) m inside ∷ flows_from m inside) (flows_from m' next) (
      sound_flow d (opened_in i) m (is_stack i) (left + holder_x i) inside top le w goods.0.0 lows.0,
      sound_flows d m (is_stack i) (left + holder_x i) inside top le w goods.0.1 rest.0,
    )
    (sound_flows d m' in_stack left next top le (past_holder d n in_stack left i inside next h) goods.1 rest.1)
sound_flows d n in_stack left (spanner inside next) top le h good low =
    sound_flows d n in_stack left next top le (past_spanner d n in_stack left inside next h) good low

-- ---- rows

pub sound_rows : (d : FlowsData) (n : Begun) (in_stack : Bool) (left : ℕ) (c : Content)
    → length d.flows ≡ length d.rows + length d.stacks → Sure d n in_stack left c
    → AllByRecursion (IsSoundRow d) (rows_from n in_stack c)
sound_rows d n in_stack left done e h = tt
sound_rows d n in_stack left (opens p next) e h = sound_rows d n in_stack left next e (past_opens d n in_stack left p next h)
sound_rows d n in_stack left (closes p next) e h = sound_rows d n in_stack left next e (past_closes d n in_stack left p next h)
sound_rows d n in_stack left (leaf l next) e h = sound_rows d n in_stack left next e (past_leaf d n in_stack left l next h)
sound_rows d n in_stack left (holds (stack p) inside next) e h =
    join_all (IsSoundRow d) (rows_from (with_stack n) true inside) (rows_from (past (with_stack n) inside) in_stack next)
    (sound_rows d (with_stack n) true (left + p.content_x) inside e (within_holder d n in_stack left (stack p) inside next h))
    (sound_rows d (past (with_stack n) inside) in_stack left next e (past_holder d n in_stack left (stack p) inside next h))
sound_rows d n in_stack left (holds (row p x is_last opened) inside next) e h =
    let m = with_row n in
    let m' = past m inside in
    let a = past-rows m inside in
    let b = past-rows m' next in
    let a' = past-stacks m inside in
    let b' = past-stacks m' next in
    let r = h.rows in
    let s = h.stacks in
    let sure = h.boxes.0.0 in
    let columns = sure.small.columns in
    let near = h.reaches.0 in (
      record {
        flow = omega arith;
        some_column = columns.some;
        column_limit = sure.narrow;
        step_limit = columns.step;
        x_limit = omega arith;
        w_limit = omega (arith, columns.w);
      },
      join_all (IsSoundRow d) (rows_from m false inside) (rows_from m' in_stack next)
          (sound_rows d m false (left + x) inside e (within_holder d n in_stack left (row p x is_last opened) inside next h))
          (sound_rows d m' in_stack left next e (past_holder d n in_stack left (row p x is_last opened) inside next h)),
    )
sound_rows d n in_stack left (spanner inside next) e h = sound_rows d n in_stack left next e
    (past_spanner d n in_stack left inside next h)
