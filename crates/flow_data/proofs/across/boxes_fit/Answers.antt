use Rattle.std.proofs.Common.{All, sym, subst}
use Rattle.flow_data.specs.Data.{Seam}
use Rattle.flow_data.specs.Across.{IsBoxInReach}
use Rattle.flow_data.specs.Flows.{flow_of, boxes_in, started}
use Rattle.flow_data.proofs.Everywhere.{of_boxes, of_opened, of_starts}
use Rattle.flow_data.proofs.Verdicts.{refused_by, same_fact, not_so}
use Rattle.flow_data.proofs.across.boxes_fit.Goals as goal

pub returns-then-opened_fit : goal.returns-then-opened_fit
returns-then-opened_fit c =
    let d = c.args.parts.now in
    let f = flow_of d c.args.flow in
    let P = IsBoxInReach d c.args.left in
    let Starts : Seam → Type 0 = λ (s : Seam). All (λ edge. All P (started edge)) s.head in
    same_fact (All P (boxes_in f)) c.seams_fit.ensures
    (λ h. of_boxes P f (subst (All P) c.opened_of.ensures (c.opened_fit.ensures.0 c.if-opened_fit.true))
    (subst (All Starts) c.seams_of.ensures h))
    (λ h. subst (All Starts) (sym c.seams_of.ensures) (of_starts P f h))

pub returns-else-opened_fit : goal.returns-else-opened_fit
returns-else-opened_fit c =
    let d = c.args.parts.now in
    let f = flow_of d c.args.flow in
    let P = IsBoxInReach d c.args.left in
    refused_by (All P (boxes_in f)) c.opened_fit.result c.if-opened_fit.false
    (λ h. not_so c.opened_fit.ensures c.if-opened_fit.false (subst (All P) (sym c.opened_of.ensures) (of_opened P f h)))
