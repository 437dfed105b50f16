-- What stands in a stack leaves room below 2^60: all that its flow holds is no higher than all flows together.
use Rattle.std.proofs.Common.{◌≡◌, ℕ, suc, ◌+◌, ◌<◌, ◌≤◌, ◌^◌, length, subst, sym, arith, sum_by, Option, ap, All, List}
use Rattle.flow_list.specs.Data.{Flow, FlowsData, Stack, Edge}
use Rattle.flow_list.specs.ClonedEdges.{bottoms, open_across, tops}
use Rattle.flow_data.specs.Flows.{amount, box_of, flow_of, item_of, no_flow, row_of, seam_of, stack_of}
use Rattle.flow_data.specs.Soundness.{IsSound, IsSoundFlow}
use Rattle.flow_list.specs.RowHeights.{row_height}
use Rattle.flow_list.specs.Rows.{all_rows, rows_to}
use Rattle.flow_list.specs.Stacks.{height_in_stack, stack_extent, stack_strip}
use Rattle.flow_list.specs.Strip.{Strip, begins}
use Rattle.flow_list.specs.Tokens.{row_start}
use Rattle.flow_list.proofs.Fitting.{amounts-drop, first-amounts, open_across-le}
use Rattle.flow_list.proofs.OpenAcross.{across-known}
use Rattle.flow_laws.proofs.LaidSums.{ahead, ahead-first, whole-le}
use Rattle.flow_laws.proofs.PlacedSums.{in-stack-height, strip-le, whole, whole-is}
use Rattle.flow_laws.proofs.RowHeightBounds.{row-height-le}
use Rattle.flow_laws.proofs.Small.{all-total}
use Rattle.flow_laws.proofs.StackSums.{stack-extent-small, stack-total}
use Rattle.flow_laws.proofs.Totals.{height_in, row_total, total-more}
use Rattle.column_laws.proofs.Bounds.{reach-small}
use Rattle.container_layout.specs.Laid.{IsStack}

heights-total : (d : FlowsData) (r : ℕ) (available : Option ℕ) →
    row_height d r available ≤ row_total d (height_in d) (suc (length d.rows)) r
unfolding all_rows
heights-total d r available = row-height-le d r (row_total d (height_in d) (suc (length d.rows)) r)
    (all-total d (length d.rows) (row_of d r).flow) available

module _ (d : FlowsData) (sound : IsSound d) (stack : Stack) (is : IsStack d stack) where
  abbrev f : Flow
  f = flow_of d stack.flow

  abbrev total : ℕ → ℕ
  total = row_total d (height_in d) (suc (length d.rows))

  in_flows : stack.flow < length d.flows
  in_flows = let P : Stack → Type 0 = λ s. s.flow < length d.flows in subst P (sym is.is) (sound.stacks is.number is.known).flow

  whole-small : whole d f total < 2 ^ 60
  whole-small =
      let P : Stack → Type 0 = λ s. whole d (flow_of d s.flow) total < 2 ^ 60 in
      let s = stack_of d is.number in
      let b = whole-is d (flow_of d s.flow) total in
      let c = total-more d (height_in d) (suc (length d.rows)) s.flow in
      let e = stack-total d sound (suc (suc (length d.rows))) is.number is.known in
      let small = sound.heights in
      subst P (sym is.is) (omega arith)

  reached : (k : ℕ) → (stack_strip d stack.bound f k).y + (stack_strip d stack.bound f k).pending + ahead total f (rows_to d 0) k
      ≤ whole d f total
  reached k =
      let all = whole-is d f total in
      let most = whole-le total f d (rows_to d 0) 0 in
      let here = strip-le d f total stack.bound (rows_to d 0) (heights-total d) k in
      omega arith

  -- before an item there is room for it and for the seam after it
  pub item-room : (k : ℕ) (s : Strip) → s ≡ stack_strip d stack.bound f k →
      s.y + s.pending + height_in_stack d stack.bound (item_of f k) (begins s) + sum_by amount (seam_of f (k + 1)).tail
      + sum_by amount (seam_of f (k + 1)).head < 2 ^ 60
  item-room k s at =
      let here = stack_strip d stack.bound f k in
      let P : Strip → Type 0 = λ s. s.y + s.pending + height_in_stack d stack.bound (item_of f k) (begins s)
      + sum_by amount (seam_of f (k + 1)).tail + sum_by amount (seam_of f (k + 1)).head < 2 ^ 60 in
      let a = reached k in
      let b = ahead-first total f (rows_to d 0) k in
      let c = in-stack-height d f total stack.bound (rows_to d 0) (heights-total d) (item_of f k) (begins here) in
      let small = whole-small in
      subst P (sym at) (omega arith)

  pub strip-room : (k : ℕ) (s : Strip) → s ≡ stack_strip d stack.bound f k → s.y + s.pending < 2 ^ 60
  strip-room k s at =
      let P : Strip → Type 0 = λ s. s.y + s.pending < 2 ^ 60 in
      let a = reached k in
      let small = whole-small in
      subst P (sym at) (omega arith)

  pub extent-room : stack_extent d stack.bound f < 2 ^ 60
  extent-room =
      let P : Stack → Type 0 = λ s. stack_extent d s.bound (flow_of d s.flow) < 2 ^ 60 in
      subst P (sym is.is) (stack-extent-small d sound is.number is.known)

  sound_flow : IsSoundFlow d f
  sound_flow = sound.flows stack.flow no_flow in_flows

  pub in-flows : stack.flow < length d.flows
  in-flows = in_flows

  pub some-seam : (k : ℕ) → k ≤ length f.items → k < length f.seams
  some-seam k le = let count = sound_flow.seam_count in omega arith

  -- the boxes that are open are boxes of the data, and there is room for their edges
  pub across-boxes : (k : ℕ) (boxes : List ℕ) → boxes ≡ open_across f k → All (λ b. b < length d.boxes) boxes
  across-boxes k boxes e = rw e (across-known d f sound_flow k)

  pub tops-room : (k : ℕ) (boxes : List ℕ) → boxes ≡ open_across f k → tops d boxes < 2 ^ 60
  tops-room k boxes e =
      rw e (omega (arith, reach-small d sound stack.flow in_flows row_start, open_across-le (λ b. (box_of d b).top) f k))

  pub bottoms-room : (k : ℕ) (boxes : List ℕ) → boxes ≡ open_across f k → bottoms d boxes < 2 ^ 60
  bottoms-room k boxes e =
      rw e (omega (arith, reach-small d sound stack.flow in_flows row_start, open_across-le (λ b. (box_of d b).bottom) f k))

  pub head-room : (boxes : List ℕ) (head : List Edge) → boxes ≡ f.opened → head ≡ (seam_of f 0).head →
      tops d boxes + sum_by amount head < 2 ^ 60
  head-room boxes head e whole =
      let t = ap (tops d) e in
      let u = ap (sum_by amount) whole in
      omega (
        arith,
        reach-small d sound stack.flow in_flows row_start,
        open_across-le (λ b. (box_of d b).top) f 0,
        first-amounts f.seams 0,
        amounts-drop f.seams 0,
      )
