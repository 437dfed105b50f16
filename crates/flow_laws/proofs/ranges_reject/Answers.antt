use Rattle.flow_laws.proofs.TallAndArea.{tall-and-area-anywhere}
use Rattle.flow_laws.proofs.OneRange.{ranges-reject}
use Rattle.flow_laws.proofs.ranges_reject.Goals as goal

pub returns : goal.returns
returns c = λ d sound r lt q place. ranges-reject d r q (tall-and-area-anywhere d sound r lt q place)
