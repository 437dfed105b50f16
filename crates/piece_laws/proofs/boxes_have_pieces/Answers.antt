use Rattle.piece_laws.proofs.Nested.{boxes-have-pieces, stack-has-pieces}
use Rattle.piece_laws.proofs.boxes_have_pieces.Goals as goal

pub returns : goal.returns
returns c = record { columns = boxes-have-pieces; stacks = stack-has-pieces }
