-- The data of a document is sound where its content is as documents' contents are.
use Rattle.std.proofs.Common.{◌≡◌, ℕ, zero, suc, ◌+◌, ◌*◌, ◌^◌, ◌<◌, ◌≤◌, ◌==◌, Bool, true, false, eqb, List, [], ◌∷◌, ◌++◌}
use Rattle.std.proofs.Common.{length, map, Option, refl, sym, subst, arith, All, append-nil, inr}
use Rattle.std.specs.Prelude.{flat_map, if◌then◌else◌}
use Rattle.std.specs.List.{AllByRecursion}
use Rattle.std.proofs.lemmas.Bool.{eqb-true, eqb-false}
use Rattle.std.proofs.lemmas.List.Elements.{All-from_recursion, All-nil}
use Rattle.flow_data.specs.declared.data.BoxInfo.{BoxInfo}
use Rattle.flow_data.specs.declared.data.FlowsData.{FlowsData}
use Rattle.flow_data.specs.declared.data.Stack.{Stack}
use Rattle.flow_data.specs.Flows as parts
use Rattle.flow_data.specs.Flows.{flow_of, flow_in, rows_in}
use Rattle.flow_data.specs.Soundness.{count_of, flow_owners, IsSoundSeam, IsSoundFlow, IsSoundRow, IsInnerRow, NestsAtMost}
use Rattle.flow_data.specs.Soundness.{stacks_within, IsSoundStack, item_total, IsSound}
use Rattle.box_data.specs.Content.{stack, row, Content, done, opens, closes, leaf, holds, spanner}
use Rattle.box_data.specs.DocumentFlows.{Begun, with_row, with_stack, next_flow, past, items_from, flow_with, flows_from}
use Rattle.box_data.specs.DocumentFlows.{rows_from, stacks_from, nothing_begun, flows_of_content}
use Rattle.box_data.specs.Limits.{item_heights, nesting, inner_counts}
use Rattle.doc_laws.proofs.Lists.{split_all}
use Rattle.doc_laws.proofs.Goes.{Fills}
use Rattle.doc_laws.proofs.Rises.{Rises}
use Rattle.doc_laws.proofs.GoodFlows.{good_flow, good_flows}
use Rattle.doc_laws.proofs.Everywhere.{Everywhere}
use Rattle.doc_laws.proofs.Reach.{Reaches}
use Rattle.doc_laws.proofs.Places.{ArePlaced, are_placed, length-rows, length-stacks, length-flows}
use Rattle.doc_laws.proofs.Counted.{count-one, count-append, own_rows, inner_rows, rows_counted, row_flows, stack_flows}
use Rattle.doc_laws.proofs.Counted.{flows_counted, own_stacks, inner_stacks, stacks_counted}
use Rattle.doc_laws.proofs.Across.{same_head, fits_across}
use Rattle.doc_laws.proofs.Deep.{Deep}
use Rattle.doc_laws.proofs.Totals.{total, few, rows-past, stacks-past, data_total}
use Rattle.doc_laws.proofs.Low.{AreLow}
use Rattle.doc_laws.proofs.Nests.{for_each_row, all_nest, all_inner}
use Rattle.doc_laws.proofs.Later.{ForStacks, for_each_stack, all_later, stacks_from_on}
use Rattle.doc_laws.proofs.Heights.{flow_atoms, low-heights}
use Rattle.doc_laws.proofs.Sure.{IsSure, Sure, sure_known, sure_small, past_opens, past_closes, past_leaf, past_spanner}
use Rattle.doc_laws.proofs.Sure.{past_holder, within_holder}
use Rattle.doc_laws.proofs.SoundFlows.{sound_flow, sound_flows, sound_rows}

abbrev AreNear : List BoxInfo → Type 0
AreNear boxes = All (λ (b : BoxInfo). (b.x < 2 ^ 60) × (b.w < 2 ^ 60)) boxes

abbrev data_of : (width : ℕ) (height : Option ℕ) → List BoxInfo → Content → FlowsData
data_of width height boxes c = flows_of_content width height boxes c

-- ---- where nothing stands in the document

each_of_one : (P : ℕ → Type 0) → P 0 → (i : ℕ) → i < 1 → P i
each_of_one P here zero lt = here
each_of_one P here (suc i) lt = absurd (omega arith)

empty_flow : (d : FlowsData) → IsSoundFlow d (flow_with [] nothing_begun done)
empty_flow d = record {
  count = omega arith;
  items = All-nil _;
  seam_count = refl;
  seams = All-from_recursion (IsSoundSeam d) (parts.no_seam ∷ [])
      (record { tail = refl; head = refl; cloned_top = λ k b h. absurd cc; cloned_bottom = λ k b h. absurd cc }, tt);
  boxes = All-nil _;
  distinct = λ i j b below lt. absurd (omega arith);
  nested = tt;
  filled = All-nil _;
}

pub sound_empty : (width : ℕ) (height : Option ℕ) (boxes : List BoxInfo) → width < 2 ^ 60 → length boxes < 2 ^ 32 → AreNear boxes
    → IsSound (data_of width height boxes done)
sound_empty width height boxes wide few near =
    let d = data_of width height boxes done in
    record {
      flow_count = omega arith;
      row_count = omega arith;
      box_count = few;
      stack_count = omega arith;
      some_stack = omega arith;
      flows = All-from_recursion (IsSoundFlow d) d.flows (empty_flow d, tt);
      rows = All-nil _;
      boxes = near;
      stacks = each_of_one (IsSoundStack d) (record { flow = omega arith; w_limit = wide; named = refl; later = All-nil _ });
      flow_belongs = each_of_one (λ f. count_of f (flow_owners d) ≡ 1) refl;
      row_belongs = λ j lt. absurd (omega arith);
      inner_rows = λ j lt. absurd (omega arith);
      nest_limit = λ j lt. absurd (omega arith);
      item_limit = omega arith;
      heights = omega arith;
      across = (All-nil _, All-nil _, All-nil _);
    }

-- ---- where something stands in it

pub record Facts (width : ℕ) (height : Option ℕ) (boxes : List BoxInfo) (c : Content) : Type 0 where
  pub width_limit : width < 2 ^ 60
  pub few_boxes : length boxes ≤ 3 * 2 ^ 28
  pub near : AreNear boxes
  pub fills : Fills false c
  pub rises : Rises 0 (length boxes) c
  pub deep : Deep 65 0 0 0 c
  pub sure : Everywhere (IsSure (data_of width height boxes c)) c
  pub reaches : Reaches (2 ^ 60) 0 0 c
  pub item_heights : AreLow (item_heights (data_of width height boxes c))
  pub nests : nesting 0 c ≤ 3
  pub items : item_total (data_of width height boxes c) ≤ 100000
  pub inner : AllByRecursion (λ n. n ≤ 2000) (inner_counts false c)

placed : (width : ℕ) (height : Option ℕ) (boxes : List BoxInfo) (c : Content)
    → ArePlaced (data_of width height boxes c) nothing_begun true c
placed width height boxes c = are_placed (data_of width height boxes c) nothing_begun true c [] [] []
    (sym (append-nil (flows_from nothing_begun c))) (sym (append-nil (rows_from nothing_begun true c)))
    (sym (append-nil (stacks_from nothing_begun c)))

-- ---- numbers

row_once : (d : FlowsData) (c : Content) (j : ℕ) → j < (past nothing_begun c).rows
    → count_of j (own_rows nothing_begun c ++ inner_rows nothing_begun c) ≡ 1
row_once d c j lt =
    let a = count-append j (own_rows nothing_begun c) (inner_rows nothing_begun c) in
    let b = rows_counted j nothing_begun c in
    omega arith

flow_once : (c : Content) (j : ℕ) → j < next_flow (past nothing_begun c)
    → count_of j (row_flows nothing_begun true c ++ (0 ∷ stack_flows nothing_begun c)) ≡ 1
flow_once c j lt =
    let a = count-append j (row_flows nothing_begun true c) (0 ∷ stack_flows nothing_begun c) in
    let b = count-append j (0 ∷ []) (stack_flows nothing_begun c) in
    let one = count-one j 0 in
    let all = flows_counted j nothing_begun true c in
    omega arith

stack_once : (c : Content) (j : ℕ) → j < (past nothing_begun c).stacks
    → count_of j (own_stacks nothing_begun c ++ inner_stacks nothing_begun c) ≡ (if j == 0 then 0 else 1)
stack_once c j lt = go (eqb j 0) refl
  where
    go : (v : Bool) → eqb j 0 ≡ v → count_of j (own_stacks nothing_begun c ++ inner_stacks nothing_begun c) ≡ (if v then 0 else 1)
    go true e =
        let same = eqb-true j 0 e in
        let a = count-append j (own_stacks nothing_begun c) (inner_stacks nothing_begun c) in
        let b = stacks_counted j nothing_begun c in
        omega arith
    go false e =
        let other = eqb-false j 0 e in
        let a = count-append j (own_stacks nothing_begun c) (inner_stacks nothing_begun c) in
        let b = stacks_counted j nothing_begun c in
        omega arith

-- ---- stacks

-- its flow and its width
abbrev IsNearStack : FlowsData → ℕ → Type 0
IsNearStack d s = ((parts.stack_of d s).flow < length d.flows) × ((parts.stack_of d s).w < 2 ^ 60)

near_stacks : (d : FlowsData) (n : Begun) (in_stack : Bool) (left : ℕ) (c : Content)
    → length d.flows ≡ length d.rows + length d.stacks → Sure d n in_stack left c → ForStacks (IsNearStack d) n c
near_stacks d n in_stack left done e h = tt
near_stacks d n in_stack left (opens p next) e h = near_stacks d n in_stack left next e (past_opens d n in_stack left p next h)
near_stacks d n in_stack left (closes p next) e h = near_stacks d n in_stack left next e (past_closes d n in_stack left p next h)
near_stacks d n in_stack left (leaf l next) e h = near_stacks d n in_stack left next e (past_leaf d n in_stack left l next h)
near_stacks d n in_stack left (holds (row p x is_last opened) inside next) e h = (
  near_stacks d (with_row n) false (left + x) inside e (within_holder d n in_stack left (row p x is_last opened) inside next h),
  near_stacks d (past (with_row n) inside) in_stack left next e
      (past_holder d n in_stack left (row p x is_last opened) inside next h),
)
near_stacks d n in_stack left (holds (stack p) inside next) e h =
    let at = same_head _ (parts.stack_of d n.stacks) h.placed.0 in
    let w = h.boxes.0.small.lengths.1.1.1.1.1.1.1.1.0 in
    let r = h.rows in
    let s = h.stacks in
    let r1 = rows-past (with_stack n) inside in
    let r2 = rows-past (past (with_stack n) inside) next in
    let s1 = stacks-past (with_stack n) inside in
    let s2 = stacks-past (past (with_stack n) inside) next in
    let flow : next_flow n < length d.flows = omega arith in
    let near : p.w < 2 ^ 60 = omega arith in (
      subst (λ (t : Stack). (t.flow < length d.flows) × (t.w < 2 ^ 60)) at (flow, near),
      near_stacks d (with_stack n) true (left + p.content_x) inside e (within_holder d n in_stack left (stack p) inside next h),
      near_stacks d (past (with_stack n) inside) in_stack left next e (past_holder d n in_stack left (stack p) inside next h),
    )
near_stacks d n in_stack left (spanner inside next) e h = near_stacks d n in_stack left next e
    (past_spanner d n in_stack left inside next h)

stack_sound : (width : ℕ) (height : Option ℕ) (boxes : List BoxInfo) (c : Content) → Facts width height boxes c
    → ForStacks (IsNearStack (data_of width height boxes c)) nothing_begun c
    → (s : ℕ) → s < (past nothing_begun c).stacks → IsSoundStack (data_of width height boxes c) s
stack_sound width height boxes c f near zero lt =
    let d = data_of width height boxes c in
    record {
      flow = omega arith;
      w_limit = f.width_limit;
      named = stack_once c 0 lt;
      later = All-from_recursion (λ named. 0 < named) (stacks_within d 0)
          (stacks_from_on d 3 1 0 nothing_begun true [] c refl (placed width height boxes c) (omega arith));
    }
stack_sound width height boxes c f near (suc s) lt =
    let d = data_of width height boxes c in
    let here = for_each_stack (IsNearStack d) nothing_begun c (suc s) near (omega arith) lt in
    record {
      flow = here.0;
      w_limit = here.1;
      named = stack_once c (suc s) lt;
      later = for_each_stack (λ s. All (λ named. s < named) (stacks_within d s)) nothing_begun c (suc s)
          (all_later d nothing_begun true c (placed width height boxes c)) (omega arith) lt;
    }

pub sound_full : (width : ℕ) (height : Option ℕ) (boxes : List BoxInfo) (c : Content) → Facts width height boxes c
    → IsSound (data_of width height boxes c)
sound_full width height boxes c f =
    let d = data_of width height boxes c in
    let n = nothing_begun in
    let at = placed width height boxes c in
    let flow_total : length d.flows ≡ next_flow (past n c) = omega (arith, length-flows n c) in
    let row_count : length d.rows ≡ (past n c).rows = omega (arith, length-rows n true c) in
    let stack_count : length d.stacks ≡ (past n c).stacks = omega (arith, length-stacks n c) in
    let total_limit : total true c ≤ 100000 = omega (arith, data_total width height boxes c at, f.items) in
    let counts = few c (inr f.fills) total_limit in
    let rows = rows-past n c in
    let stacks = stacks-past n c in
    let same : length d.flows ≡ length d.rows + length d.stacks = omega arith in
    let some_rows = counts.rows in
    let some_stacks = counts.stacks in
    let boxes_few = f.few_boxes in
    let sure : Sure d n true 0 c = record {
      placed = at;
      reaches = f.reaches;
      boxes = f.sure;
      rows = omega arith;
      stacks =
          omega arith;
      items = counts.items;
    } in
    let lows = split_all (λ k. k ≤ 2 ^ 24) (map parts.atom_height (items_from n c))
    (flat_map flow_atoms (flows_from n c)) f.item_heights in
    let top = length boxes in
    let own = good_flow [] [] n c 0 top (f.fills []) tt f.rises in
    let others = good_flows n true [] [] c 0 top top (f.fills []) f.rises (omega arith) in
    let near = near_stacks d n true 0 c same sure in
    record {
      flow_count = omega arith;
      row_count = omega arith;
      box_count = omega arith;
      stack_count = omega arith;
      some_stack = omega arith;
      flows = All-from_recursion (IsSoundFlow d) d.flows (
        sound_flow d [] n true 0 c top (omega arith) sure own lows.0,
        sound_flows d n true 0 c top (omega arith) sure others lows.1,
      );
      rows = All-from_recursion (IsSoundRow d) d.rows (sound_rows d n true 0 c same sure);
      boxes = f.near;
      stacks = λ s lt. stack_sound width height boxes c f near s (omega arith);
      flow_belongs = λ j lt. flow_once c j (omega arith);
      row_belongs = λ j lt. row_once d c j (omega arith);
      inner_rows = λ j lt. for_each_row (λ outer. All (IsInnerRow d outer) (rows_in (flow_in d outer))) n c j
          (all_inner d false n true true [] [] c at (f.fills []) f.inner) (omega arith) (omega arith);
      nest_limit = λ j lt. for_each_row (NestsAtMost d 3) n c j (all_nest d 0 n true c at f.nests) (omega arith) (omega arith);
      item_limit = f.items;
      heights = low-heights d n c top (sure_small d c f.sure) f.item_heights f.rises f.few_boxes f.deep counts.rows counts.items;
      across = fits_across d (length d.flows) 0 0 n true [] [] c refl
          (record {
            goes = f.fills [];
            placed = at;
            knows = sure_known d c f.sure;
            opened_known = tt;
            opened_fit = tt;
            reaches =
                f.reaches;
          });
    }
