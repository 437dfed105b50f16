use Rattle.std.proofs.Common.{arith}
use Rattle.box_content.proofs.CutSteps.{no_void}
use Rattle.box_content.proofs.closing.fill_void.Goals as goal

pub returns-else-len-from : goal.returns-else-len-from
returns-else-len-from c = no_void c.args.place c.args.x c.args.from c.args.marks.now.items (omega (arith, c.len.ensures))
