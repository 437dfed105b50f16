use Rattle.std.proofs.Common.{sym}
use Rattle.css_winner.proofs.filing.Filing.number.Goals as goal

pub returns-in-Some-clause-within : goal.returns-in-Some-clause-within
returns-in-Some-clause-within c = c.requires c.args.name.now c.in-Some.number (sym c.in-Some.ensures)
