use Rattle.std.proofs.Common.{◌↔◌, All, length, sum_by}
use Rattle.flow_data.specs.Flows.{stack_of}
use Rattle.flow_data.specs.Soundness.{FitsAcross}
use Rattle.flow_data.proofs.FitsAcross.{FitsAt, visits_at}
use Rattle.flow_data.proofs.across.fits_across.Given as goal

abbrev pub invariant-loop-place : goal.invariant-loop-place
invariant-loop-place l = All (FitsAt l.parts) l.places.items ↔ FitsAcross l.parts (length l.parts.flows) 0
    (stack_of l.parts 0).flow

abbrev pub decreases-loop-place : goal.decreases-loop-place
decreases-loop-place l = sum_by (visits_at l.parts) l.places.items
