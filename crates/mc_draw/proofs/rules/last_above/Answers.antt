use Rattle.std.proofs.Common.{sym, ◌∙◌, arith}
use Rattle.mc_draw.proofs.Steps.{above_then, above_else}
use Rattle.mc_draw.proofs.rules.last_above.Goals.{then-from, else-from}
use Rattle.mc_draw.proofs.rules.last_above.Goals as goal

pub loop-line-preserved : goal.loop-line-preserved
loop-line-preserved c =
    let one = c.from.ensures in
    let two = c.from-in-loop-line.ensures in
    elim c.if-from.branch [
      | then-from w ↦ rw w.last-is (sym (above_then c.args.depth c.args.lines.now c.loop-line.line-index c.line-item.result
          c.loop-line-test.true c.line-item.is (let same = w.if-from.true in omega (arith, one, two, same))))
      | else-from w ↦ rw w.last-is (c.loop-line.invariant ∙ sym (above_else c.args.depth c.args.lines.now
          c.loop-line.line-index c.line-item.result c.loop-line-test.true c.line-item.is
          (λ same. let no = w.if-from.false in omega (arith, one, two, same, no))))
    ]
