use Rattle.std.proofs.Common.{arith}
use Rattle.html_subset.proofs.StackLemmas.{length_stack}
use Rattle.html_subset.proofs.stack.depth_in.Goals as goal

pub returns : goal.returns
returns c = omega (arith, length_stack c.args.opens.now)
