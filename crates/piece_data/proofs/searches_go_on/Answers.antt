use Rattle.piece_data.proofs.Pieces.{search-goes-on}
use Rattle.piece_data.proofs.searches_go_on.Goals as goal

pub returns : goal.returns
returns c = search-goes-on
