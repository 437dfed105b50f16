use Rattle.std.proofs.Common.{ℕ, ◌<◌, All}
use Rattle.flow_data.specs.Soundness.{stacks_within}
use Rattle.flow_data.proofs.sound_stacks.stacks_name_later.Given as goal

abbrev pub invariant-loop-stack : goal.invariant-loop-stack
invariant-loop-stack l = (k : ℕ) → k < l.stack → All (λ named. k < named) (stacks_within l.parts k)
