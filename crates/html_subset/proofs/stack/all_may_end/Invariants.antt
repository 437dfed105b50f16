use Rattle.std.proofs.Common.{◌≡◌, vec_len}
use Rattle.html_grammar.specs.Machine.{all_omit}
use Rattle.html_subset.specs.Stack.{stack_of}
use Rattle.html_subset.proofs.stack.all_may_end.Given as goal

abbrev pub invariant-loop-open : goal.invariant-loop-open
invariant-loop-open l = all_omit (stack_of l.opens.items) ≡ all_omit (stack_of l.fn.opens.items)

abbrev pub decreases-loop-open : goal.decreases-loop-open
decreases-loop-open l = vec_len l.opens
