use Rattle.inline_text.proofs.Blank.{pieces_are, left_are}
use Rattle.inline_text.proofs.collapsing.is_blank.Goals as goal

pub returns-clause-pieces : goal.returns-clause-pieces
returns-clause-pieces c = pieces_are c.args.styles.now c.args.pieces.now c.all_blank.result c.all_blank.ensures

pub returns-clause-left : goal.returns-clause-left
returns-clause-left c = left_are c.args.styles.now c.args.pieces.now c.all_blank.result c.all_blank.ensures
