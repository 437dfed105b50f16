use Rattle.std.proofs.Common.{◌+◌, ◌<◌, length, ◌∙◌, ap, sym, arith}
use Rattle.flow_data.specs.Flows.{flow_of}
use Rattle.flow_list.specs.Column.{is_forced}
use Rattle.flow_list.specs.Data.{Seam}
use Rattle.flow_list.proofs.Fitting.{forced_above-one, forced_above-none}
use Rattle.range_finder.proofs.room.most_columns.Goals as goal
use Rattle.range_finder.proofs.room.most_columns.Goals.{then-is_forced_at, else-is_forced_at}

pub loop-k-preserved : goal.loop-k-preserved
loop-k-preserved c = elim c.if-is_forced_at.branch [
  | then-is_forced_at w ↦
      let f = flow_of c.args.flows.now c.row_at-info.result.now.flow in
      let n = c.item_count.ensures in
      let l = c.saturating_sub-last.ensures in
      let t = c.loop-k-test.true in
      let within : c.loop-k.k + 1 < length f.items = omega arith in
      let i = c.loop-k.invariant.so_far in
      let j = c.loop-k.invariant.few in
      let e = w.forced-is in
      let s = forced_above-one f c.loop-k.k within
      (ap (λ (s : Seam). is_forced s.level) (sym c.seam_at.ensures.same) ∙ sym w.if-is_forced_at.ensures) in
      record { so_far = omega arith; few = omega arith }
  | else-is_forced_at w ↦
      let f = flow_of c.args.flows.now c.row_at-info.result.now.flow in
      let n = c.item_count.ensures in
      let l = c.saturating_sub-last.ensures in
      let t = c.loop-k-test.true in
      let within : c.loop-k.k + 1 < length f.items = omega arith in
      let i = c.loop-k.invariant.so_far in
      let j = c.loop-k.invariant.few in
      let e = w.forced-is in
      let s = forced_above-none f c.loop-k.k within
      (ap (λ (s : Seam). is_forced s.level) (sym c.seam_at.ensures.same) ∙ sym w.if-is_forced_at.ensures) in
      record { so_far = omega arith; few = omega arith }
]
