use Rattle.cite_laws.proofs.Telling.{tell}
use Rattle.cite_laws.proofs.lines_tell_their_sizes.Goals as goal

pub returns : goal.returns
returns c = λ d r q range. tell d r q range
