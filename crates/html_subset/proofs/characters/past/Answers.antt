use Rattle.std.proofs.Common.{◌∙◌}
use Rattle.html_subset.proofs.TextLemmas.{past_one}
use Rattle.html_subset.proofs.characters.past.Goals as goal

pub loop-preserved : goal.loop-preserved
loop-preserved c = rw c.bump.ensures (past_one c.args.count c.loop.counter c.loop.ahead c.loop-test.true ∙ c.loop.invariant)
