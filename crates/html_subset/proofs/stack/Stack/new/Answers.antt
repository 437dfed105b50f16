use Rattle.std.proofs.Common.{[], refl}
use Rattle.html_subset.proofs.StackLemmas.{stack_none}
use Rattle.html_subset.proofs.stack.Stack.new.Goals as goal

pub returns : goal.returns
returns c = rw c.new.ensures.items (stack_none [] refl)
