use Rattle.std.proofs.Common.{◌<◌, length, arith, ◌∙◌}
use Rattle.tree_lines.proofs.Inside.{some-fits, some-shows}
use Rattle.tree_lines.proofs.walk.tree_lines.Goals as goal

pub put_stack-requires-clause-fits : goal.put_stack-requires-clause-fits
put_stack-requires-clause-fits c =
    let some : 0 < c.flow_counts-stacks.result.stacks = omega (arith, c.if-stacks-eq0.false) in
    some-fits c.args.flows.now c.args.laid.now c.args.pool.now c.flow_counts-stacks.result.stacks
    (length c.args.flows.now.stacks) 0 0 0 0 c.flow_counts-stacks.ensures.stacks some c.requires

pub returns : goal.returns
returns c = λ g.
    let some : 0 < c.flow_counts-stacks.result.stacks = omega (arith, c.if-stacks-eq0.false) in
    (rw c.new-out.ensures at (c.in_ok-put_stack.ensures g))
    ∙ some-shows c.args.flows.now c.args.laid.now c.args.pool.now c.flow_counts-stacks.result.stacks
    (length c.args.flows.now.stacks) 0 0 0 0 c.flow_counts-stacks.ensures.stacks some g
