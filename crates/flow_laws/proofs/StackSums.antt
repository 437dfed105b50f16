-- Each stack reaches less than 2^60: its flow, the flows of the rows in it, and so on inwards stand in no other stack, so those
-- of all stacks together are no higher than all flows.
use Rattle.std.proofs.Common.{◌≡◌, ℕ, suc, ◌+◌, ◌<◌, ◌≤◌, ◌^◌, length, Option, refl, arith, sum_by}
use Rattle.std.proofs.lemmas.List.Sums.{get_or-le-sum_by}
use Rattle.flow_list.specs.Data.{FlowsData, Stack}
use Rattle.flow_data.specs.Flows.{row_of, stack_of, flow_of, rows_in, no_flow, no_stack}
use Rattle.flow_data.specs.Soundness.{IsSound, flow_height}
use Rattle.flow_list.specs.Rows.{rows_to, all_rows}
use Rattle.flow_list.specs.RowHeights.{row_height}
use Rattle.flow_list.specs.Stacks.{stack_extent}
use Rattle.flow_laws.proofs.Held.{over-rows, over-owners}
use Rattle.flow_laws.proofs.PlacedSums.{whole-is, stack-reach}
use Rattle.flow_laws.proofs.RowHeightBounds.{row-height-le}
use Rattle.flow_laws.proofs.Small.{all-total}
use Rattle.flow_laws.proofs.Totals.{up, up-list, up-both, up-below, total_within, row_total, height_in, total-more, total-rises}

row-height-total : (d : FlowsData) (r : ℕ) (available : Option ℕ) →
    row_height d r available ≤ row_total d (height_in d) (suc (length d.rows)) r
unfolding all_rows
row-height-total d r available = row-height-le d r (row_total d (height_in d) (suc (length d.rows)) r)
    (all-total d (length d.rows) (row_of d r).flow) available

module _ (d : FlowsData) (sound : IsSound d) where
  -- all stacks together
  stacks-total : (n : ℕ) → up (λ s. total_within d (height_in d) n (stack_of d s).flow) 0 (length d.stacks)
      ≤ up (λ f. flow_height d (flow_of d f)) 0 (length d.flows)
  stacks-total n =
      let rows = over-rows d sound (row_total d (height_in d) n) in
      let owners = over-owners d sound (total_within d (height_in d) n) in
      let parts = up-both (λ f. flow_height d (flow_of d f))
      (λ f. sum_by (row_total d (height_in d) n) (rows_in (flow_of d f))) 0 (length d.flows) in
      let rises = up-below (total_within d (height_in d) n)
      (λ f. flow_height d (flow_of d f) + sum_by (row_total d (height_in d) n) (rows_in (flow_of d f))) 0 (length d.flows)
      (λ f. let a = total-rises d (height_in d) n f in let b = total-more d (height_in d) n f in omega arith) in
      omega arith

  pub stack-total : (n s : ℕ) → s < length d.stacks → total_within d (height_in d) n (stack_of d s).flow
      ≤ sum_by (flow_height d) d.flows
  stack-total n s lt =
      let all = stacks-total n in
      let stacks = up-list (λ s. total_within d (height_in d) n (stack_of d s).flow)
      (λ (s : Stack). total_within d (height_in d) n s.flow) no_stack 0 d.stacks
      (λ i l. let z : 0 + i ≡ i = omega arith in rw z refl) in
      let flows = up-list (λ f. flow_height d (flow_of d f)) (flow_height d) no_flow 0 d.flows
      (λ i l. let z : 0 + i ≡ i = omega arith in rw z refl) in
      let one = get_or-le-sum_by (λ (s : Stack). total_within d (height_in d) n s.flow) d.stacks s no_stack lt in
      omega arith

  pub stack-extent-small : (s : ℕ) → s < length d.stacks
      → stack_extent d (stack_of d s).bound (flow_of d (stack_of d s).flow) < 2 ^ 60
  stack-extent-small s lt =
      let f = flow_of d (stack_of d s).flow in
      let a = stack-reach d f (row_total d (height_in d) (suc (length d.rows))) (stack_of d s).bound (rows_to d 0)
      (row-height-total d) in
      let b = whole-is d f (row_total d (height_in d) (suc (length d.rows))) in
      let c = total-more d (height_in d) (suc (length d.rows)) (stack_of d s).flow in
      let e = stack-total (suc (suc (length d.rows))) s lt in
      let small = sound.heights in
      omega arith
