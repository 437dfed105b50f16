use Rattle.line_breaker.proofs.Halves.{halved}
use Rattle.line_breaker.proofs.height.half.Goals as goal

pub returns-clause-least : goal.returns-clause-least
returns-clause-least c = (halved c.args.length c.div_euclid.result c.ranges.length c.div_euclid.ensures).0

pub returns-clause-most : goal.returns-clause-most
returns-clause-most c = (halved c.args.length c.div_euclid.result c.ranges.length c.div_euclid.ensures).1
