use Rattle.std.proofs.Common.{◌∙◌, sym, arith}
use Rattle.result_reader.proofs.Cuts.{first-empty, first-old, first-new, first-wrong}
use Rattle.result_reader.proofs.read.first.Goals as goal

pub returns-then-is_empty : goal.returns-then-is_empty
returns-then-is_empty c =
    (first-empty c.args.text.now c.is_empty.result c.is_empty.ensures c.if-is_empty.true, omega arith)

pub returns-then-is_line : goal.returns-then-is_line
returns-then-is_line c =
    let line = c.cut_at-line.result in (
      first-old c.args.text.now line.text.now line.ended line.next c.cut_at-line.ensures.here
          (sym c.is_line.ensures ∙ c.if-is_line.true),
      c.cut_at-line.ensures.after,
      c.cut_at-line.ensures.bound,
    )

pub returns-then-is_line-2 : goal.returns-then-is_line-2
returns-then-is_line-2 c =
    let line = c.cut_at-line.result in (
      first-new c.args.text.now line.text.now line.ended line.next c.cut_at-line.ensures.here
          (sym c.is_line.ensures ∙ c.if-is_line.false) (sym c.is_line-2.ensures ∙ c.if-is_line-2.true),
      c.cut_at-line.ensures.after,
      c.cut_at-line.ensures.bound,
    )

pub returns : goal.returns
returns c =
    let line = c.cut_at-line.result in (
      first-wrong c.args.text.now line.text.now line.ended line.next c.cut_at-line.ensures.here
          (sym c.is_line.ensures ∙ c.if-is_line.false) (sym c.is_line-2.ensures ∙ c.if-is_line-2.false),
      omega arith,
    )
