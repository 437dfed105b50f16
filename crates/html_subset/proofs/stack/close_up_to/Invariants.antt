use Rattle.std.proofs.Common.{◌≡◌, vec_len}
use Rattle.html_grammar.specs.Machine.{without}
use Rattle.html_subset.specs.Stack.{stack_of}
use Rattle.html_subset.proofs.stack.close_up_to.Given as goal

abbrev pub invariant-loop-open : goal.invariant-loop-open
invariant-loop-open l = without l.at l.name l.html (stack_of l.opens.items)
    ≡ without l.at l.name l.html (stack_of l.fn.opens.items)

abbrev pub decreases-loop-open : goal.decreases-loop-open
decreases-loop-open l = vec_len l.opens
