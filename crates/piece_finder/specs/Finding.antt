-- What a search for the least height of a cut piece finds (this project's own).
use Rattle.std.specs.Prelude.{◌≡◌, ℕ}
use Rattle.flow_data.specs.declared.data.FlowsData.{FlowsData}
use Rattle.flow_list.specs.Tokens.{Token}
use Rattle.piece_data.specs.LeastPiece.{least_height, unfit_ranges}
use Rattle.piece_finder.specs.Telling.{told_ranges}
use Rattle.piece_finder.specs.declared.search.Found.{Found}

pub record IsFound (d : FlowsData) (r : ℕ) (q : Token) (a : ℕ) (found : Found) : Type 0 where
  pub height : found.height ≡ least_height d r q a
  pub reasons : told_ranges found.ranges ≡ unfit_ranges d r q a
