use Rattle.std.proofs.Common.{◌≡◌, ◌-◌, ◌^◌, min, sum_by, count_by, take}
use Rattle.flow_data.specs.declared.data.Stack.{Stack}
use Rattle.flow_data.specs.Flows.{flow_of}
use Rattle.flow_data.specs.Soundness.{is_atom}
use Rattle.doc_limits.proofs.items.stack_atoms.Given as goal

abbrev pub invariant-loop-stack : goal.invariant-loop-stack
invariant-loop-stack l = l.count
    ≡ min (sum_by (λ (s : Stack). count_by is_atom (flow_of l.parts s.flow).items) (take l.stack-index l.parts.stacks))
    (2 ^ 64 - 1)
