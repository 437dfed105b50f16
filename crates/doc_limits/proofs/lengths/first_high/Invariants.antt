use Rattle.std.specs.Prelude.{◌^◌, map}
use Rattle.flow_data.specs.declared.data.Flow.{Flow}
use Rattle.flow_data.specs.Flows.{atom_height}
use Rattle.doc_limits.proofs.Firsts.{IsFirstFrom}
use Rattle.doc_limits.proofs.lengths.first_high.Given as goal

abbrev pub invariant-loop-flow : goal.invariant-loop-flow
invariant-loop-flow l = IsFirstFrom (2 ^ 24) (λ (f : Flow). map atom_height f.items) l.flows l.flow-index
