use Rattle.selector_laws.proofs.Media.{media_read}
use Rattle.selector_laws.proofs.media_are_read.Goals as goal

pub returns : goal.returns
returns c = media_read
