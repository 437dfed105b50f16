use Rattle.std.proofs.Common.{ℕ, length}
use Rattle.flow_list.specs.Data.{FlowsData}
use Rattle.flow_data.specs.Soundness.{IsSound}
use Rattle.flow_laws.proofs.Exists.{sizes-least}
use Rattle.flow_laws.proofs.RowsStay.{breaks-stay}
use Rattle.flow_list.specs.Rows.{all_rows}
use Rattle.flow_list.specs.Tokens.{Token}
use Rattle.range_laws.proofs.ChangeLaw.{each-some}
use Rattle.range_laws.proofs.Neighbours.{JudgedChange, ranges-differ}
use Rattle.range_laws.proofs.RowsChange.{judged-changes}
use Rattle.range_laws.proofs.neighbours_differ.Goals as goal

change : (d : FlowsData) → IsSound d → (r : ℕ) (q : Token) → JudgedChange d r q
unfolding all_rows
change d sound r q = judged-changes d (breaks-stay d) (λ inner. sizes-least inner d) (each-some d sound) (length d.rows) r q

pub returns : goal.returns
returns c = λ d sound r q available. ranges-differ d r q (change d sound r q) available
