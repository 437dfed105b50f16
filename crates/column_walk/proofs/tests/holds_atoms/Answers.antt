use Rattle.std.proofs.Common.{arith}
use Rattle.flow_data.specs.Flows.{flow_of}
use Rattle.column_walk.proofs.Empty.{no-rows}
use Rattle.column_walk.proofs.tests.holds_atoms.Goals as goal

pub returns : goal.returns
returns c = λ e. no-rows (flow_of c.args.flows.now c.args.flow) c.item_count-i-end.result c.item_count-i-end.ensures
    (λ k lt. let t = c.loop-i-test.false in c.loop-i.invariant k (omega arith))
