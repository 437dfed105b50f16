use Rattle.std.proofs.Common.{sym, subst}
use Rattle.hit_index.specs.Bands.{IsIndexed}
use Rattle.hit_index.proofs.Filled.{filled-whole}
use Rattle.hit_index.proofs.index.Index.of.Goals as goal

pub invariant_of-result : goal.invariant_of-result
invariant_of-result c =
    subst (λ bands. IsIndexed c.loop-line.marks bands) (sym c.in_ok-push-2.ensures.ok)
    (filled-whole c.loop-line.marks c.loop-line.filling c.loop-line.invariant.filled)
