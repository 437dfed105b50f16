use Rattle.flow_laws.proofs.TallAndArea.{tall-and-area-anywhere}
use Rattle.flow_laws.proofs.AllRanges.{ranges-account}
use Rattle.flow_laws.proofs.ranges_account.Goals as goal

pub returns : goal.returns
returns c = λ d sound r lt q place available. ranges-account d r q (tall-and-area-anywhere d sound r lt q place) available
