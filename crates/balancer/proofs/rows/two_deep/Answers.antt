use Rattle.std.proofs.Common.{arith}
use Rattle.balancer.proofs.rows.two_deep.Goals as goal

pub returns-clause-engine : goal.returns-clause-engine
returns-clause-engine c = λ d b p. (
  omega arith,
  (omega arith, tt, rw c.over-2.ensures.inner (c.over.ensures.fills d b p)),
  c.over-2.ensures.fills d b p,
)
