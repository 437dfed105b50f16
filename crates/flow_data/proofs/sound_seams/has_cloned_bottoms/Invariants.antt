use Rattle.std.proofs.Common.{◌≡◌, ◌-◌, ◌<◌, ℕ, Some, slice_get}
use Rattle.flow_data.specs.Data.{Solid, End}
use Rattle.flow_data.specs.Flows.{box_of}
use Rattle.flow_data.proofs.sound_seams.has_cloned_bottoms.Given as goal

abbrev pub invariant-loop-k : goal.invariant-loop-k
invariant-loop-k l = (k b : ℕ) → k < l.k → slice_get l.tail k ≡ Some (End b) → 0 < (box_of l.parts b).bottom
    → slice_get l.tail (k - 1) ≡ Some (Solid (box_of l.parts b).bottom)
