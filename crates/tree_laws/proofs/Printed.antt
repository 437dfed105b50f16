-- The lines of a layout are those of the flows' tree, and each has 64 bits.
use Rattle.std.proofs.Common.{◌≡◌, ℕ, zero, suc, ◌+◌, List, ◌∷◌, All, length, refl, sym, subst, ap, arith}
use mathlib.Core.Path.{fun_ext}
use Rattle.flow_list.specs.Data.{FlowsData}
use Rattle.flow_data.specs.Flows.{stack_of, flow_of}
use Rattle.flow_data.specs.Soundness.{IsSound}
use Rattle.flow_list.specs.declared.laid.Laid.{Laid}
use Rattle.flow_list.specs.Fragments.{stack_fragment}
use Rattle.flow_list.specs.Stacks.{stack_height}
use Rattle.flow_list.specs.Tree.{TreeLine, stack, extent_of, lines_of_tree, lines_of_stack, tree_of}
use Rattle.flow_laws.proofs.TreeBounds.{rectangles-bounded}
use Rattle.frag_pool.specs.Nodes.{Nodes}
use Rattle.tree_lines.specs.Shown.{Given, stack_lines, Fits}
use Rattle.tree_laws.specs.Layout.{IsLayout, IsPrinted}
use Rattle.tree_laws.proofs.Inside.{stack-inside}

module _ (d : FlowsData) where
  abbrev Stacks : Type 0
  Stacks = ℕ → ℕ → ℕ → ℕ → List TreeLine

  same-stacks : (a b : Stacks) → ((s depth x y : ℕ) → a s depth x y ≡ b s depth x y) → a ≡ b
  same-stacks a b same = fun_ext λ s. fun_ext λ depth. fun_ext λ x. fun_ext λ y. same s depth x y

  -- the lines of a stack, with those of the stacks in it
  abbrev with_stacks : (s depth x y : ℕ) → Stacks → List TreeLine
  with_stacks s depth x y stacks =
      record { depth = depth; kind = stack s; x = x; y = y; w = (stack_of d s).w; h = stack_height d s }
      ∷ lines_of_tree d stacks (flow_of d (stack_of d s).flow) (depth + 1)
      (record {
        x = x;
        y = y;
        w = (stack_of d s).w;
        h = stack_height d s;
        extent = extent_of (stack_fragment d s);
        bottoms = 0;
      }) (stack_fragment d s)

  same-lines : (n s depth x y : ℕ)
      → stack_lines d (stack_height d) (stack_fragment d) n s depth x y ≡ lines_of_stack d n s depth x y
  unfolding stack_lines lines_of_stack
  same-lines zero s depth x y = refl
  same-lines (suc n) s depth x y = ap (with_stacks s depth x y)
      (same-stacks (stack_lines d (stack_height d) (stack_fragment d) n) (lines_of_stack d n) (same-lines n))

  tree-lines : stack_lines d (stack_height d) (stack_fragment d) (length d.stacks) 0 0 0 0 ≡ tree_of d
  unfolding tree_of
  tree-lines = same-lines (length d.stacks) 0 0 0 0

  tree-fits : IsSound d → All Fits (tree_of d)
  tree-fits sound k line lt =
      let ends = (rectangles-bounded d sound).lines_end_below k line lt in
      let right = ends.0 in
      let bottom = ends.1 in
      record { x = omega arith; y = omega arith; w = omega arith; h = omega arith }

  pub printed : (laid : Laid) (p : Nodes) → IsSound d → IsLayout d laid p → IsPrinted d laid p
  printed laid p sound is =
      let given : Given d laid p = record {
        heights = stack_height d;
        trees = stack_fragment d;
        count = is.count;
        height = is.height;
        stands = is.stands;
        inside = stack-inside d sound;
      } in
      record {
        given = given;
        fits = record { given = given; fits = subst (λ lines. All Fits lines) (sym tree-lines) (tree-fits sound) };
        lines = tree-lines;
      }
