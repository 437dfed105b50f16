use Rattle.flow_laws.proofs.TallAndArea.{tall-and-area-anywhere}
use Rattle.flow_laws.proofs.AllRanges.{ranges-account}
use Rattle.range_laws.proofs.CiteLaw.{lines-cite}
use Rattle.range_laws.proofs.lines_cite.Goals as goal

pub returns : goal.returns
returns c = λ d sound r lt q place available. lines-cite d r q available
    (ranges-account d r q (tall-and-area-anywhere d sound r lt q place) available)
