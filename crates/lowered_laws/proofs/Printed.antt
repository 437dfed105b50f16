-- A layout whose flagged pieces are lowered is printed: its trees are settled, and so its lines have 64 bits.
use Rattle.std.proofs.Common.{◌≡◌, ℕ, zero, suc, ◌+◌, ◌<◌, ◌^◌, List, ◌∷◌, All, length, refl, sym, subst, ap, arith}
use Rattle.std.proofs.lemmas.List.Elements.{All-from_recursion}
use mathlib.Core.Path.{fun_ext}
use Rattle.flow_list.specs.Data.{FlowsData}
use Rattle.flow_data.specs.Flows.{stack_of, flow_of}
use Rattle.flow_data.specs.Soundness.{IsSound}
use Rattle.flow_list.specs.declared.laid.Laid.{Laid}
use Rattle.flow_list.specs.Fragments.{stack_fragment}
use Rattle.flow_list.specs.Stacks.{stack_extent, stack_height}
use Rattle.flow_list.specs.Tokens.{Token}
use Rattle.flow_list.specs.Tree.{TreeLine, Frame, stack, extent_of, lines_of_tree}
use Rattle.flow_laws.specs.Rectangles.{EndsBelow}
use Rattle.flow_laws.proofs.Descent.{first-stands, x-small}
use Rattle.flow_laws.proofs.StackSums.{stack-extent-small}
use Rattle.frag_pool.specs.Nodes.{Nodes}
use Rattle.tree_lines.specs.Shown.{Given, stack_lines, Fits, IsInside}
use Rattle.piece_data.specs.Lowering.{Flags, columns_at, columns_lowered, lowered_in, stack_lowered}
use Rattle.piece_data.specs.Lowering.{lines_of_lowered, lowered_tree}
use Rattle.lowered_laws.specs.Layout.{IsLoweredLayout, IsLoweredPrinted}
use Rattle.lowered_laws.proofs.Lines.{IsFrame, StacksSmall, tree-small}
use Rattle.lowered_laws.proofs.Made.{columns-good, stack-settled}
use Rattle.lowered_laws.proofs.Settled.{AreGood, IsSettled, good-lowered, lowered-settled, settled-inside}

module _ (d : FlowsData) (sound : IsSound d) (flags : Flags) where
  -- ---- what is lowered is settled

  lowered-good : (n r : ℕ) (q : Token) (h : ℕ) → r < length d.rows → AreGood d r (columns_lowered d flags n r q h)
  unfolding columns_lowered
  lowered-good zero r q h known = columns-good d sound r q h known
  lowered-good (suc n) r q h known =
      good-lowered d sound flags (columns_lowered d flags n) (lowered-good n) r h (columns_at d r q h)
      (columns-good d sound r q h known)

  pub stack-lowered-settled : (s : ℕ) → s < length d.stacks → IsSettled d (stack_of d s).flow (stack_lowered d flags s)
  unfolding stack_lowered
  stack-lowered-settled s known =
      lowered-settled d sound flags (columns_lowered d flags (length d.rows)) (lowered-good (length d.rows))
      (stack_of d s).flow (stack_height d s) (stack_fragment d s) (stack-settled d sound s known)

  pub stack-inside : (s : ℕ) → s < length d.stacks → IsInside d (stack_of d s).flow (stack_lowered d flags s)
  stack-inside s known =
      settled-inside d (stack_of d s).flow (stack_lowered d flags s) (stack-lowered-settled s known)

  -- ---- and its lines are small

  same-extent : (s : ℕ) → extent_of (stack_lowered d flags s)
      ≡ stack_extent d (stack_of d s).bound (flow_of d (stack_of d s).flow)
  unfolding stack_lowered lowered_in stack_fragment
  same-extent s = refl

  stacks-small : (n : ℕ) → StacksSmall d sound (lines_of_lowered d flags n)
  unfolding lines_of_lowered StacksSmall
  stacks-small zero s depth x y known stands high = tt
  stacks-small (suc n) s depth x y known stands high =
      let g = (stack_of d s).flow in
      let tree = stack_lowered d flags s in
      let owner = sound.stacks s known in
      let w = owner.w_limit in
      let across = x-small d sound g 1 x y stands in
      let down = stands.heights 0 in
      let reach = stack-extent-small d sound s known in
      let extent = same-extent s in
      let frame : Frame =
      record { x = x; y = y; w = (stack_of d s).w; h = stack_height d s; extent = extent_of tree; bottoms = 0 } in
      let here : IsFrame d sound g 1 frame =
      record { stands = stands; known = owner.flow; w = w; h = high; extent = omega arith } in (
        (omega arith, omega arith),
        tree-small d sound (lines_of_lowered d flags n) (stacks-small n) g 1 (depth + 1) frame tree here
            (stack-lowered-settled s known),
      )

  first-high : 0 < length d.stacks → stack_height d 0 < 2 ^ 60
  unfolding stack_height
  first-high some = stack-extent-small d sound 0 some

  lines-end : All EndsBelow (lowered_tree d flags)
  unfolding lowered_tree StacksSmall
  lines-end =
      All-from_recursion EndsBelow (lines_of_lowered d flags (length d.stacks) 0 0 0 0)
      (stacks-small (length d.stacks) 0 0 0 0 sound.some_stack (first-stands d sound sound.some_stack)
      (first-high sound.some_stack))

  -- ---- the lines are those of the tree

  abbrev Stacks : Type 0
  Stacks = ℕ → ℕ → ℕ → ℕ → List TreeLine

  same-stacks : (a b : Stacks) → ((s depth x y : ℕ) → a s depth x y ≡ b s depth x y) → a ≡ b
  same-stacks a b same = fun_ext λ s. fun_ext λ depth. fun_ext λ x. fun_ext λ y. same s depth x y

  -- the lines of a stack, with those of the stacks in it
  abbrev with_stacks : (s depth x y : ℕ) → Stacks → List TreeLine
  with_stacks s depth x y stacks =
      record { depth = depth; kind = stack s; x = x; y = y; w = (stack_of d s).w; h = stack_height d s }
      ∷ lines_of_tree d stacks (flow_of d (stack_of d s).flow) (depth + 1)
      (record {
        x = x;
        y = y;
        w = (stack_of d s).w;
        h = stack_height d s;
        extent = extent_of (stack_lowered d flags s);
        bottoms = 0;
      }) (stack_lowered d flags s)

  same-lines : (n s depth x y : ℕ) → stack_lines d (stack_height d) (stack_lowered d flags) n s depth x y
      ≡ lines_of_lowered d flags n s depth x y
  unfolding stack_lines lines_of_lowered
  same-lines zero s depth x y = refl
  same-lines (suc n) s depth x y = ap (with_stacks s depth x y)
      (same-stacks (stack_lines d (stack_height d) (stack_lowered d flags) n) (lines_of_lowered d flags n) (same-lines n))

  tree-lines : stack_lines d (stack_height d) (stack_lowered d flags) (length d.stacks) 0 0 0 0 ≡ lowered_tree d flags
  unfolding lowered_tree
  tree-lines = same-lines (length d.stacks) 0 0 0 0

  tree-fits : All Fits (lowered_tree d flags)
  tree-fits k line lt =
      let ends = lines-end k line lt in
      let right = ends.0 in
      let bottom = ends.1 in
      record { x = omega arith; y = omega arith; w = omega arith; h = omega arith }

  pub printed : (laid : Laid) (p : Nodes) → IsLoweredLayout d flags laid p → IsLoweredPrinted d flags laid p
  printed laid p is =
      let given : Given d laid p = record {
        heights = stack_height d;
        trees = stack_lowered d flags;
        count = is.count;
        height = is.height;
        stands = is.stands;
        inside = stack-inside;
      } in
      record {
        given = given;
        fits = record { given = given; fits = subst (λ lines. All Fits lines) (sym tree-lines) tree-fits };
        lines = tree-lines;
        ends = lines-end;
      }
