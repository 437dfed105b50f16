-- The flow of stack 0 of a flow file is sound, and lists of one and of two.
use Rattle.std.proofs.Common.{ℕ, zero, suc, ◌<◌, [], ◌∷◌, length, refl, arith, All}
use Rattle.std.proofs.lemmas.List.Elements.{All-from_recursion, All-nil}
use Rattle.flow_list.specs.Data.{FlowsData}
use Rattle.flow_data.specs.Flows.{no_seam}
use Rattle.flow_list.specs.FileFlows.{outer_flow}
use Rattle.flow_data.specs.Soundness.{IsSoundItem, IsSoundSeam, IsSoundFlow}

pub empty_seam : (d : FlowsData) → IsSoundSeam d no_seam
empty_seam d = record {
  tail = refl;
  head = refl;
  cloned_top = λ k b h. absurd cc;
  cloned_bottom = λ k b h. absurd cc;
}

pub outer_sound : (d : FlowsData) → 0 < length d.rows → IsSoundFlow d outer_flow
outer_sound d row = record {
  count = omega arith;
  items = All-from_recursion (IsSoundItem d) outer_flow.items (row, tt);
  seam_count = refl;
  seams = All-from_recursion (IsSoundSeam d) outer_flow.seams (empty_seam d, (empty_seam d, tt));
  boxes = All-nil _;
  distinct = λ i j b below lt. absurd (omega arith);
  nested = tt;
  filled = All-nil _;
}

pub each_of_one : (P : ℕ → Type 0) → P 0 → (i : ℕ) → i < 1 → P i
each_of_one P here zero lt = here
each_of_one P here (suc i) lt = absurd (omega arith)

pub each_of_two : (P : ℕ → Type 0) → P 0 → P 1 → (i : ℕ) → i < 2 → P i
each_of_two P first second zero lt = first
each_of_two P first second (suc zero) lt = second
each_of_two P first second (suc (suc i)) lt = absurd (omega arith)

pub all_from_one : {X : Type 0} (P : X → Type 0) (x : X) → P x → All P (x ∷ [])
all_from_one P x here = All-from_recursion P (x ∷ []) (here, tt)
