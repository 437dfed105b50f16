use Rattle.std.proofs.Common.{arith}
use Rattle.row_all.proofs.whole.three_deep.Goals as goal

pub returns-clause-engine : goal.returns-clause-engine
returns-clause-engine c = λ d b p. (
  omega arith,
  rw c.over.ensures.inner (c.two_deep.ensures.engine d b p),
  c.over.ensures.fills d b p,
)
