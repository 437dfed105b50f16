use Rattle.kept_lines.proofs.tests.broken_after.Goals as goal

pub returns : goal.returns
returns c = c.turn.ensures.kept c.args.fonts.now c.kept_or_broken.ensures.kept
