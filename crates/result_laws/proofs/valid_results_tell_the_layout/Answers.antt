use Rattle.flow_laws.proofs.Exists.{sizes-least}
use Rattle.flow_laws.proofs.TallAndArea.{tall-and-area-anywhere}
use Rattle.flow_laws.proofs.OneRange.{ranges-reject}
use Rattle.flow_list.specs.Rows.{all_rows}
use Rattle.range_laws.proofs.Deciding.{ranges-decide}
use Rattle.result_laws.proofs.Valid.{valid-tells}
use Rattle.result_laws.proofs.valid_results_tell_the_layout.Goals as goal

pub returns : goal.returns
returns c = λ d sound. valid-tells d (λ r lt q place. ranges-decide d r q
    (ranges-reject d r q (tall-and-area-anywhere d sound r lt q place)) (sizes-least (all_rows d) d))
