use Rattle.std.proofs.Common.{◌≡◌, ◌+◌, ◌<◌, ℕ, Some, slice_get}
use Rattle.flow_data.specs.Data.{Solid, Start}
use Rattle.flow_data.specs.Flows.{box_of}
use Rattle.flow_data.proofs.sound_seams.has_cloned_tops.Given as goal

abbrev pub invariant-loop-k : goal.invariant-loop-k
invariant-loop-k l = (k b : ℕ) → k < l.k → slice_get l.head k ≡ Some (Start b) → 0 < (box_of l.parts b).top
    → slice_get l.head (k + 1) ≡ Some (Solid (box_of l.parts b).top)
