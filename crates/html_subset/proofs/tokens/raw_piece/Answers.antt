use Rattle.std.proofs.Common.{◌≡◌, length, arith}
use Rattle.html_subset.proofs.PieceLemmas.{piece_none}
use Rattle.html_subset.proofs.tokens.raw_piece.Goals as goal

pub returns-then-is_empty : goal.returns-then-is_empty
returns-then-is_empty c = λ cs e.
    let none : length c.args.text ≡ 0 = grind arith in
    piece_none c.args.at c.args.text cs none e
