use Rattle.box_style.proofs.ShortLemmas.{styles_short}
use Rattle.box_style.proofs.laws.styles_are_short.Goals as goal

pub returns : goal.returns
returns c = styles_short
