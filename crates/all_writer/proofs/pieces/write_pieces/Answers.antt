use Rattle.std.proofs.Common.{◌<◌, ◌++◌, length, subst, arith}
use Rattle.all_writer.specs.PieceText.{piece_text, pieces_text}
use Rattle.all_writer.proofs.Parts.{part-next, part-passes}
use Rattle.all_writer.proofs.pieces.write_pieces.Goals as goal

pub returns-then-len-most-clause-long : goal.returns-then-len-most-clause-long
returns-then-len-most-clause-long c = λ none.
    let long : c.args.most < length c.put_piece.new.out =
    let l = c.if-len-most.true in
    let e = c.len.ensures in
    omega arith in
    subst (λ pieces. c.args.most < length (c.args.front ++ pieces_text pieces)) c.as_slice-piece-items.ensures
    (part-passes piece_text c.args.front c.loop-piece.text c.put_piece.new.out c.as_slice-piece-items.result.now
    c.loop-piece.piece-index c.args.most c.piece-item.result c.loop-piece-test.true c.piece-item.is
    c.in_ok-put_piece.ensures c.loop-piece.invariant long)

pub loop-piece-preserved : goal.loop-piece-preserved
loop-piece-preserved c =
    part-next piece_text c.args.front c.loop-piece.text c.put_piece.new.out c.as_slice-piece-items.result.now
    c.loop-piece.piece-index c.piece-item.result c.loop-piece-test.true c.piece-item.is c.in_ok-put_piece.ensures
    c.loop-piece.invariant
