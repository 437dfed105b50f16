use Rattle.std.proofs.Common.{◌∙◌}
use Rattle.box_content.proofs.WalkLemmas.{marks_are}
use Rattle.box_content.proofs.walking.content.Goals as goal

pub returns : goal.returns
returns c = λ tree e are. c.of.ensures ∙ c.in_ok-walk.ensures ∙ marks_are c.args.places.now tree e are
