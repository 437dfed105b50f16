use Rattle.html_subset.proofs.StackLemmas.{stack_push}
use Rattle.html_subset.proofs.stack.Stack.push.Goals as goal

pub returns : goal.returns
returns c = rw (c.in_ok-push.ensures.items, ← c.self.view_is) (stack_push c.self.inside.opens.items _)
