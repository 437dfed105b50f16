use Rattle.std.proofs.Common.{ℕ, ◌<◌}
use Rattle.flow_list.specs.Atoms.{IsAtom}
use Rattle.flow_data.specs.Flows.{flow_of, item_of}
use Rattle.column_walk.proofs.tests.holds_atoms.Given as goal

abbrev pub invariant-loop-i : goal.invariant-loop-i
invariant-loop-i l = (k : ℕ) → k < l.i → IsAtom (item_of (flow_of l.flows l.flow) k)
