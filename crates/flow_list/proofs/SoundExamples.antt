-- Sound data, and data that isn't: a row of one piece in a box with cloned edges, and what goes wrong in it.
use Rattle.std.proofs.Common.{◌≡◌, ℕ, zero, suc, ◌+◌, ◌-◌, ◌^◌, ◌<◌, false, List, [], ◌∷◌, Some, refl, subst, arith}
use Rattle.std.specs.Prelude.{slice_get, SomeIndex, Contains}
use Rattle.std.proofs.lemmas.List.Elements.{All-from_recursion, All-nil}
use Rattle.mc_base.specs.declared.level.Level.TheVariants.{L0}
use Rattle.flow_list.specs.Data.{BoxInfo, Edge, FlowsData, Seam, Line, Free, Margin, Solid, Start, End, Atom, Row}
use Rattle.flow_data.specs.Flows.{no_seam, no_flow, flow_of, row_of, box_of, open_at}
use Rattle.flow_data.specs.Soundness.{IsSoundItem, IsSoundSeam, IsSoundFlow, IsSoundRow, IsSoundStack, IsSound, NestsAtMost, Held}
use Rattle.flow_data.specs.Soundness.{FitsAcross, item_x}
use Rattle.flow_list.proofs.OuterFlow.{outer_sound, each_of_one, each_of_two, all_from_one}

-- stack 0 holds row 0, whose flow is a line between these two seams
abbrev line_in : List Edge → List Edge → FlowsData
line_in head tail = record {
  flows = record { opened = []; items = Row 0 ∷ []; seams = no_seam ∷ no_seam ∷ [] }
      ∷ record {
        opened = [];
        items = Atom 20 (Line 0 0 0 100) ∷ [];
        seams = record { tail = []; head = head; level = L0 } ∷ record { tail = tail; head = []; level = L0 } ∷ [];
      }
      ∷ [];
  rows = record { flow = 1; n = 2; w = 100; step = 110; x = 0; auto = false } ∷ [];
  boxes = record { x = 0; w = 100; avoid = false; top = 3; bottom = 4 } ∷ [];
  stacks = record { flow = 0; w = 210; bound = Free } ∷ [];
}

-- the box starts with its upper edge, and ends with its lower edge
abbrev in_a_box : FlowsData
in_a_box = line_in (Margin 8 ∷ Start 0 ∷ Solid 3 ∷ []) (Solid 4 ∷ End 0 ∷ Margin 8 ∷ [])

abbrev box_head : Seam
box_head = record { tail = []; head = Margin 8 ∷ Start 0 ∷ Solid 3 ∷ []; level = L0 }

abbrev box_tail : Seam
box_tail = record { tail = Solid 4 ∷ End 0 ∷ Margin 8 ∷ []; head = []; level = L0 }

top_edge : (k b : ℕ) → slice_get box_head.head k ≡ Some (Start b)
    → slice_get box_head.head (k + 1) ≡ Some (Solid (box_of in_a_box b).top)
top_edge zero b h = absurd cc
top_edge (suc zero) b h =
    let P : ℕ → Type 0 = λ b. slice_get box_head.head 2 ≡ Some (Solid (box_of in_a_box b).top) in
    let e : 0 ≡ b = cc in
    subst P e refl
top_edge (suc (suc zero)) b h = absurd cc
top_edge (suc (suc (suc k))) b h = absurd cc

bottom_edge : (k b : ℕ) → slice_get box_tail.tail k ≡ Some (End b)
    → slice_get box_tail.tail (k - 1) ≡ Some (Solid (box_of in_a_box b).bottom)
bottom_edge zero b h = absurd cc
bottom_edge (suc zero) b h =
    let P : ℕ → Type 0 = λ b. slice_get box_tail.tail 0 ≡ Some (Solid (box_of in_a_box b).bottom) in
    let e : 0 ≡ b = cc in
    subst P e refl
bottom_edge (suc (suc zero)) b h = absurd cc
bottom_edge (suc (suc (suc k))) b h = absurd cc

box_flow : IsSoundFlow in_a_box (flow_of in_a_box 1)
box_flow = record {
  count = omega arith;
  items = all_from_one (IsSoundItem in_a_box) (Atom 20 (Line 0 0 0 100)) (record {
    height_limit = omega arith;
    owners = all_from_one (λ b. b < 1) 0 (omega arith);
    x_limit = omega arith;
    w_limit = omega arith;
    stack = tt;
  });
  seam_count = refl;
  seams = All-from_recursion (IsSoundSeam in_a_box) (box_head ∷ box_tail ∷ []) (
    record { tail = refl; head = refl; cloned_top = λ k b h _. top_edge k b h; cloned_bottom = λ k b h. absurd cc },
    (record { tail = refl; head = refl; cloned_top = λ k b h. absurd cc; cloned_bottom = λ k b h _. bottom_edge k b h }, tt),
  );
  boxes = all_from_one (λ b. b < 1) 0 (omega arith);
  distinct = λ i j b below lt. absurd (omega arith);
  nested = (refl, tt);
  filled = all_from_one (λ b. SomeIndex (flow_of in_a_box 1).items (λ k. Contains (open_at (flow_of in_a_box 1) k) b)) 0
      (0, omega arith, (0, omega arith, refl));
}

in_a_box-is_sound : IsSound in_a_box
in_a_box-is_sound = record {
  flow_count = omega arith;
  row_count = omega arith;
  box_count = omega arith;
  stack_count = omega arith;
  some_stack = omega arith;
  flows = All-from_recursion (IsSoundFlow in_a_box) in_a_box.flows (outer_sound in_a_box (omega arith), (box_flow, tt));
  rows = all_from_one (IsSoundRow in_a_box) (row_of in_a_box 0) (record {
    flow = omega arith;
    some_column = omega arith;
    column_limit = omega arith;
    step_limit = omega arith;
    x_limit = omega arith;
    w_limit = omega arith;
  });
  boxes = all_from_one (λ (b : BoxInfo). (b.x < 2 ^ 60) × (b.w < 2 ^ 60)) (box_of in_a_box 0) (omega arith, omega arith);
  stacks = each_of_one (IsSoundStack in_a_box)
      (record { flow = omega arith; w_limit = omega arith; named = refl; later = All-nil _ });
  flow_belongs = each_of_two _ refl refl;
  row_belongs = each_of_one _ refl;
  inner_rows = each_of_one _ (All-nil _);
  nest_limit = each_of_one (NestsAtMost in_a_box 3) (All-nil _);
  item_limit = omega arith;
  heights = omega arith;
  across = (
    All-nil _,
    all_from_one (λ item. 0 + item_x in_a_box item < 2 ^ 60) (Row 0) (omega arith),
    all_from_one (λ (h : Held). FitsAcross in_a_box 1 (0 + h.x) h.flow) (record { flow = 1; x = 0 }) (
      all_from_one (λ b. 0 + (box_of in_a_box b).x < 2 ^ 60) 0 (omega arith),
      all_from_one (λ item. 0 + item_x in_a_box item < 2 ^ 60) (Atom 20 (Line 0 0 0 100)) (omega arith),
      All-nil _,
    ),
  );
}

-- a start without its cloned edge
no_edge-is_unsound : IsSound (line_in (Start 0 ∷ []) (Solid 4 ∷ End 0 ∷ [])) → ⊥
no_edge-is_unsound sound =
    let seam = ((sound.flows 1 no_flow (omega arith)).seams 0 no_seam (omega arith)) in
    let edge = seam.cloned_top 0 0 refl (omega arith) in
    cc

-- a box that ends where none is open
no_start-is_unsound : IsSound (line_in [] (Solid 4 ∷ End 0 ∷ [])) → ⊥
no_start-is_unsound sound = (sound.flows 1 no_flow (omega arith)).nested

-- a start in a tail
start_in_tail-is_unsound : IsSound (line_in [] (Start 0 ∷ Solid 3 ∷ [])) → ⊥
start_in_tail-is_unsound sound =
    let seam = ((sound.flows 1 no_flow (omega arith)).seams 1 no_seam (omega arith)) in
    let none = seam.tail in
    cc
