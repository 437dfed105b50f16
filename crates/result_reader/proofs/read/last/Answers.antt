use Rattle.std.proofs.Common.{refl}
use Rattle.result_reader.proofs.Cuts.{line-follows, none-left}
use Rattle.result_reader.proofs.read.last.Goals as goal

pub returns-then-next-text : goal.returns-then-next-text
returns-then-next-text c =
    rw c.fault_at.ensures (line-follows c.args.text.now c.args.next 5 c.if-next-text.true refl)

pub returns : goal.returns
returns c = (refl, none-left c.args.text.now c.args.next c.if-next-text.false)
