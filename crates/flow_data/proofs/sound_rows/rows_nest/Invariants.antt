use Rattle.std.proofs.Common.{ℕ, ◌<◌}
use Rattle.flow_data.specs.Soundness.{NestsAtMost}
use Rattle.flow_data.proofs.sound_rows.rows_nest.Given as goal

abbrev pub invariant-loop-row : goal.invariant-loop-row
invariant-loop-row l = (k : ℕ) → k < l.row → NestsAtMost l.parts 3 k
