-- What stands around an item of a column is small.
use Rattle.std.proofs.Common.{ℕ, ◌+◌, ◌<◌, ◌^◌, Bool, true, false, cond, List, [], length, arith, sum_by}
use Rattle.std.proofs.lemmas.List.Elements.{All-nil}
use Rattle.flow_data.specs.declared.data.Edge.{Edge}
use Rattle.flow_data.specs.declared.data.Flow.{Flow}
use Rattle.flow_data.specs.declared.data.FlowsData.{FlowsData}
use Rattle.flow_data.specs.Flows.{amount, box_of, flow_of, no_flow, seam_of}
use Rattle.flow_data.specs.Soundness.{IsSound}
use Rattle.flow_data.proofs.BoxSums.{open_at-le}
use Rattle.flow_list.specs.Column.{ColumnLine}
use Rattle.flow_list.proofs.Fitting.{first-amounts, open_across-le}
use Rattle.column_strip.specs.declared.passing.Before.{Before}
use Rattle.column_strip.specs.declared.passing.Behind.{Behind}
use Rattle.column_strip.specs.Passed.{IsBefore, IsBehind}
use Rattle.column_walk.specs.declared.endings.Here.{Here}
use Rattle.column_walk.specs.Endings.{IsSmall}
use Rattle.column_walk.specs.Stopping.{AreShallow}

module _ (d : FlowsData) (f : Flow) (k height : ℕ) (before : Before) (past : Behind) (is_before : IsBefore d f k height before)
    (is_past : IsBehind d f k past) where
  pub high-small : height < 2 ^ 60
  high-small = let r = is_before.room in omega arith

  pub need-small : past.strip.y + past.boxes.bottoms < 2 ^ 60
  need-small =
      let b = is_past.across.below in
      let r = is_past.room in
      omega (arith, open_across-le (λ b. (box_of d b).bottom) f (k + 1))

  pub begin-small : before.strip.y + before.strip.pending + before.boxes.bottoms < 2 ^ 60
  begin-small =
      let b = is_before.boxes.below in
      let r = is_before.room in
      omega (arith, open_at-le (λ b. (box_of d b).bottom) f k)

  pub follow-small : sum_by amount (seam_of f (k + 1)).tail + past.boxes.bottoms < 2 ^ 60
  follow-small =
      let b = is_past.across.below in
      let r = is_before.room in
      omega (arith, open_across-le (λ b. (box_of d b).bottom) f (k + 1), first-amounts f.seams (k + 1))

pub small-any : (tail : List Edge) (here : Here) → IsSmall tail here → IsSmall [] here
small-any tail here small = record {
  high = small.high;
  needs = small.needs;
  begins = small.begins;
  follows = let f = small.follows in omega arith;
}

pub next-fits : (d : FlowsData) → IsSound d → (f : ℕ) → f < length d.flows → (k : ℕ) → k < length (flow_of d f).items
    → k + 1 < 2 ^ 32
next-fits d sound f lt k in_items = let c = (sound.flows f no_flow lt).count in omega arith

pub cut-shallow : (b : Bool) (lines : List ColumnLine) → AreShallow lines → AreShallow (cond b lines [])
cut-shallow true lines all = all
cut-shallow false lines all = All-nil (λ (l : ColumnLine). l.depth + 1 < 2 ^ 32)
