use Rattle.std.proofs.Common.{◌∙◌, ap}
use Rattle.std.specs.Prelude.{nat_lt}
use Rattle.column_strip.proofs.OpenSums.{avoids-is}
use Rattle.column_strip.proofs.open_boxes.OpenBoxes.avoids.Goals as goal

pub returns : goal.returns
returns c = λ d boxes is. ap (λ n. nat_lt 0 n) is.avoid ∙ avoids-is d boxes
