use Rattle.selector_laws.proofs.Media.{media_said}
use Rattle.selector_laws.proofs.media_are_said.Goals as goal

pub returns : goal.returns
returns c = media_said
