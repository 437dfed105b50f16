use Rattle.flow_laws.proofs.TallAndArea.{tall-and-area}
use Rattle.flow_laws.proofs.tall_and_area_reject.Goals as goal

pub returns : goal.returns
returns c = tall-and-area
