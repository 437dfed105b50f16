use Rattle.std.proofs.Common.{[], arith}
use Rattle.std.proofs.lemmas.Grind.{common_steps}
use Rattle.inline_text.proofs.Scan.{collapsed_behind_at}
use Rattle.inline_text.proofs.collapsing.collapse_pieces.Goals as goal

pub returns : goal.returns
returns c = grind (arith, common_steps, collapsed_behind_at c.args.styles.now [] c.args.pieces.now)
