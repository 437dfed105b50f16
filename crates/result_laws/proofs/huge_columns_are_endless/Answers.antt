use Rattle.flow_laws.proofs.Small.{needs-and-bounds}
use Rattle.result_laws.proofs.Steps.{huge-column}
use Rattle.result_laws.proofs.huge_columns_are_endless.Goals as goal

pub returns : goal.returns
returns c = λ d sound r lt t h place le. huge-column d r t h (needs-and-bounds d sound r lt) place le
