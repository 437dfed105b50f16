use Rattle.std.proofs.Common.{◌∙◌, sym}
use Rattle.column_places.proofs.Gaps.{places-all}
use Rattle.column_places.proofs.placing.Placing.finish.Goals as goal

pub returns-clause-placed : goal.returns-clause-placed
returns-clause-placed c = c.in_ok-end_gap.ensures.placed ∙ sym (places-all c.args.self.now)
