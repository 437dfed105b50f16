use Rattle.std.proofs.Common.{◌≡◌, ◌-◌, ◌^◌, min, sum_by, count_by, take}
use Rattle.flow_data.specs.Data.{Stack}
use Rattle.flow_data.specs.Flows.{flow_of}
use Rattle.flow_data.specs.Soundness.{is_atom}
use Rattle.flow_data.proofs.sizes.stack_atoms.Given as goal

abbrev pub invariant-loop-stack : goal.invariant-loop-stack
invariant-loop-stack l = l.count
    ≡ min (sum_by (λ (s : Stack). count_by is_atom (flow_of l.parts s.flow).items) (take l.stack-index l.parts.stacks))
    (2 ^ 64 - 1)
