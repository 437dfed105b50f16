-- What is answered of a cut piece (this project's own).
use Rattle.std.specs.Prelude.{◌≡◌, ℕ}
use Rattle.flow_data.specs.declared.data.FlowsData.{FlowsData}
use Rattle.flow_list.specs.Tokens.{Token}
use Rattle.piece_data.specs.LeastPiece.{least_height, unfit_ranges}
use Rattle.piece_finder.specs.Telling.{told_ranges}
use Rattle.piece_finder.specs.declared.lowering.PieceOut.{PieceOut}

-- the least height of a piece of row r that begins at q and is cut at height a, and why no lesser height will do
pub record IsLeastPiece (d : FlowsData) (r : ℕ) (q : Token) (a : ℕ) (out : PieceOut) : Type 0 where
  pub height : out.height ≡ least_height d r q a
  pub reasons : told_ranges out.ranges ≡ unfit_ranges d r q a
