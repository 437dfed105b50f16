use Rattle.piece_data.proofs.Pieces.{piece-holds}
use Rattle.piece_data.proofs.least_pieces_hold.Goals as goal

pub returns : goal.returns
returns c = piece-holds
