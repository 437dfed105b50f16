use Rattle.std.proofs.Common.{sym, ap, ◌∙◌}
use Rattle.box_content.proofs.CutSteps.{opened_by, last_is}
use Rattle.box_content.proofs.cutting.last_opening.Goals as goal

pub returns-in-Some : goal.returns-in-Some
returns-in-Some c = c.opening.ensures ∙ ap opened_by c.in-Some.ensures.value ∙ sym (last_is c.args.part.now)
