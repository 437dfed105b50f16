-- A stack's height and fragment, told of the stack that a look answered.
use Rattle.std.proofs.Common.{◌≡◌, ℕ, ◌+◌, ◌==◌, List, [], ◌∷◌, length, cond, sym, ◌∙◌, ap, subst, arith}
use Rattle.mc_base.specs.PlainTree.{PlainTree, plain_trees, column as column_tree}
use Rattle.mc_base.specs.declared.fragment.FragId.{FragId}
use Rattle.mc_base.specs.declared.fragment.FragId.TheVariants.{Trial}
use Rattle.mc_base.specs.declared.fragment.Node.TheVariants.{Column as ColumnNode}
use Rattle.flow_list.specs.Data.{FlowsData, Stack}
use Rattle.flow_data.specs.Flows.{flow_of, stack_of}
use Rattle.flow_list.specs.ClonedEdges.{bottoms, open_across}
use Rattle.flow_list.specs.Fragments.{all_trees, stack_fragment}
use Rattle.flow_list.specs.Placing.{Placed}
use Rattle.flow_list.specs.Stacks.{own_height, stack_extent, stack_height, stack_strip}
use Rattle.flow_list.specs.Tokens.{Token, row_start}
use Rattle.frag_pool.specs.Nodes.{Nodes, trial_more}
use Rattle.frag_pool.specs.Standing.{AllStandFor, StandsFor}
use Rattle.column_maker.proofs.Parts.{column-made}
use Rattle.container_layout.specs.Laid.{columns_in}
use Rattle.container_layout.specs.Placed.{laid_in, places_in}

module _ (d : FlowsData) (number : ℕ) (stack : Stack) (is : stack ≡ stack_of d number) where
  abbrev far : Stack → ℕ
  far s = stack_extent d s.bound (flow_of d s.flow)

  abbrev tree : Stack → PlainTree
  tree s = column_tree s.flow row_start (length (flow_of d s.flow).items ∷ []) (far s)
      (plain_trees (all_trees (columns_in d) (places_in d s (laid_in d s))))

  tree-is : tree stack ≡ stack_fragment d number
  unfolding stack_fragment
  tree-is = ap tree is

  -- how far it reaches: its strip, and the lower edges of the boxes that are open there
  pub extent-is : (y b : ℕ) → y ≡ (stack_strip d (stack_of d number).bound (flow_of d (stack_of d number).flow)
      (length (flow_of d (stack_of d number).flow).items)).y →
      b ≡ bottoms d (open_across (flow_of d stack.flow) (length (flow_of d stack.flow).items)) → y + b ≡ far stack
  extent-is y b down low =
      let own : b ≡ bottoms d (open_across (flow_of d (stack_of d number).flow) (length (flow_of d (stack_of d
      number).flow).items)) =
      low ∙ ap (λ (s : Stack). bottoms d (open_across (flow_of d s.flow) (length (flow_of d s.flow).items))) is in
      let sum : y + b ≡ far (stack_of d number) = omega arith in
      sum ∙ sym (ap far is)

  pub height-is : (extent height : ℕ) → extent ≡ far stack → height ≡ cond (number == 0) extent (own_height stack.bound extent) →
      height ≡ stack_height d number
  unfolding stack_height
  height-is extent height reach high =
      high ∙ ap (λ x. cond (number == 0) x (own_height stack.bound x)) reach
      ∙ ap (λ (s : Stack). cond (number == 0) (far s) (own_height s.bound (far s))) is

  pub stack-made : (p q : Nodes) (start stop : Token) (extent n : ℕ) (ids : List FragId) (placed : List Placed) →
      start ≡ row_start → stop ≡ n ∷ [] → n ≡ length (flow_of d stack.flow).items → extent ≡ far stack →
      q ≡ trial_more p (ColumnNode stack.flow start stop extent ids) → placed ≡ places_in d (stack_of d number)
      (laid_in d (stack_of d number)) → AllStandFor p ids (plain_trees (all_trees (columns_in d) placed)) →
      StandsFor q (Trial (length p.trial)) (stack_fragment d number)
  stack-made p q start stop extent n ids placed from to count reach more there stand =
      let P : PlainTree → Type 0 = λ t. StandsFor q (Trial (length p.trial)) t in
      let Q : List Placed → Type 0 = λ ps. AllStandFor p ids (plain_trees (all_trees (columns_in d) ps)) in
      let own : placed ≡ places_in d stack (laid_in d stack) = there ∙ sym (ap (λ (s : Stack). places_in d s (laid_in d s)) is) in
      subst P tree-is (column-made p q stack.flow row_start start (length (flow_of d stack.flow).items ∷ []) stop (far stack)
      extent
      ids _ from (to ∙ ap (λ n. n ∷ []) count) reach more (subst Q own stand))
