use Rattle.std.proofs.Common.{◌≡◌, vec_len}
use Rattle.html_grammar.specs.Machine.{drop_closed}
use Rattle.html_subset.specs.Stack.{stack_of}
use Rattle.html_subset.proofs.stack.close_closed.Given as goal

abbrev pub invariant-loop-opens : goal.invariant-loop-opens
invariant-loop-opens l = drop_closed l.name (stack_of l.opens.items) ≡ drop_closed l.name (stack_of l.fn.opens.items)

abbrev pub decreases-loop-opens : goal.decreases-loop-opens
decreases-loop-opens l = vec_len l.opens
