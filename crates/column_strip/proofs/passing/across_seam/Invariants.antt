use Rattle.flow_data.specs.Flows.{flow_of}
use Rattle.column_strip.specs.Boxes.{IsAcross}
use Rattle.column_strip.proofs.passing.across_seam.Given as goal

abbrev pub invariant-loop-j : goal.invariant-loop-j
invariant-loop-j l = IsAcross l.flows (flow_of l.flows l.flow) l.j l.across
