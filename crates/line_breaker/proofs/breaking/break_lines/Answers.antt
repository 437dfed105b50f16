use Rattle.std.proofs.Common.{[], length, sym, ap, ◌∙◌}
use Rattle.std.proofs.lemmas.Result.{IfOk-weaker}
use Rattle.line_breaker.specs.Arrays.{start}
use Rattle.line_breaker.proofs.Between.{length-places}
use Rattle.line_breaker.proofs.AllLines.{length-opportunities, holds_all, filled, narrow}
use Rattle.line_breaker.proofs.OneList.{one_list, within, few}
use Rattle.line_breaker.proofs.breaking.break_lines.Goals as goal

pub aheads-requires-clause-places : goal.aheads-requires-clause-places
aheads-requires-clause-places c = ap length (c.deref.ensures.value ∙ c.in_ok-places.ensures.value)
    ∙ length-places c.as_slice-styles.result.now c.args.fonts.now start c.as_slice-pieces.result.now

pub aheads-requires-clause-opportunities : goal.aheads-requires-clause-opportunities
aheads-requires-clause-opportunities c =
    ap length (c.deref-2.ensures.value ∙ c.in_ok-seams.ensures.list)
    ∙ length-opportunities c.args.runs.now.styles [] c.args.runs.now.pieces ∙ ap length (sym c.as_slice-pieces.ensures)

pub returns-clause-pieces : goal.returns-clause-pieces
returns-clause-pieces c = IfOk-weaker c.cut.result _ _
    (λ lines are. holds_all c.args.runs.now c.args.fonts.now c.args.width c.args.strut lines are) c.cut.ensures.lines

pub returns-clause-filled : goal.returns-clause-filled
returns-clause-filled c = IfOk-weaker c.cut.result _ _
    (λ lines are. filled c.args.runs.now c.args.fonts.now c.args.width c.args.strut 0 lines are) c.cut.ensures.lines

pub returns-clause-narrow : goal.returns-clause-narrow
returns-clause-narrow c = IfOk-weaker c.cut.result _ _
    (λ lines are. narrow c.args.runs.now c.args.fonts.now c.args.width c.args.strut 0 lines are) c.cut.ensures.lines

pub returns-clause-only : goal.returns-clause-only
returns-clause-only c = λ lines are. IfOk-weaker c.cut.result _ _
    (λ found is. one_list c.args.runs.now c.args.fonts.now c.args.width c.args.strut 0 found lines is are) c.cut.ensures.lines

pub returns-clause-within : goal.returns-clause-within
returns-clause-within c = IfOk-weaker c.cut.result _ _
    (λ lines are. within c.args.runs.now c.args.fonts.now c.args.width c.args.strut lines are) c.cut.ensures.lines

pub returns-clause-few : goal.returns-clause-few
returns-clause-few c = IfOk-weaker c.cut.result _ _
    (λ lines are. few c.args.runs.now c.args.fonts.now c.args.width c.args.strut lines are) c.cut.ensures.lines
