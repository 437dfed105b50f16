use Rattle.std.proofs.Common.{ℕ, ◌<◌, All}
use Rattle.flow_data.specs.Flows.{rows_in, flow_in}
use Rattle.flow_data.specs.Soundness.{IsInnerRow}
use Rattle.flow_data.proofs.sound_rows.inner_rows_are_sound.Given as goal

abbrev pub invariant-loop-outer : goal.invariant-loop-outer
invariant-loop-outer l = (k : ℕ) → k < l.outer → All (IsInnerRow l.parts k) (rows_in (flow_in l.parts k))
