use Rattle.flow_data.specs.Flows.{flow_in}
use Rattle.flow_laws.proofs.AllRanges.{ranges-account}
use Rattle.flow_laws.proofs.Exists.{sizes-least}
use Rattle.flow_laws.proofs.TallAndArea.{tall-and-area-anywhere}
use Rattle.flow_list.specs.Rows.{all_rows}
use Rattle.result_laws.proofs.OwnEntries.{own-entries}
use Rattle.result_laws.proofs.Valid.{row-start-place}
use Rattle.result_laws.proofs.own_entries_pass.Goals as goal

pub returns : goal.returns
returns c = λ d sound. own-entries d (sizes-least (all_rows d) d)
    (λ r lt q place a. ranges-account d r q (tall-and-area-anywhere d sound r lt q place) a)
    (λ r. row-start-place d (flow_in d r))
