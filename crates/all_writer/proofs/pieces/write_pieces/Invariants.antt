-- what stands there, and the pieces to come
use Rattle.std.proofs.Common.{◌≡◌, ◌++◌, drop}
use Rattle.all_writer.specs.PieceText.{pieces_text}
use Rattle.all_writer.proofs.pieces.write_pieces.Given as goal

abbrev pub invariant-loop-piece : goal.invariant-loop-piece
invariant-loop-piece l = l.text ++ pieces_text (drop l.piece-index l.piece-items) ≡ l.fn.front ++ pieces_text l.piece-items
