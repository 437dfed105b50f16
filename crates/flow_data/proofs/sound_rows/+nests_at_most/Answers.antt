use Rattle.std.proofs.Common.{◌∙◌, ◌-◌, All, ap, subst}
use Rattle.std.proofs.lemmas.List.{take_all}
use Rattle.flow_data.specs.Data.{RowInfo}
use Rattle.flow_data.specs.Flows.{flow_of, row_in}
use Rattle.flow_data.specs.Soundness.{NestsAtMost}
use Rattle.flow_data.proofs.Everywhere.{nests-from_items, nests-inner}
use Rattle.flow_data.proofs.Verdicts.{refused, accepted, not_so}
use Rattle.flow_data.proofs.sound_rows.+nests_at_most.Goals as goal

pub returns-in-loop-item : goal.returns-in-loop-item
returns-in-loop-item t c =
    let d = c.args.parts.now in
    let items = c.items_of-item-items.result.now in
    let is_its = c.items_of-item-items.ensures ∙ ap (λ (r : RowInfo). (flow_of d r.flow).items) c.row_of.ensures in
    refused (NestsAtMost d c.args.n c.args.row) (λ h.
    not_so c.nests_at_most.ensures c.if-not-nests_at_most.true
    (nests-inner d c.args.n c.args.row c.loop-item.item-index c.in-Row.inner items c.if-n-eq0.false is_its
    c.loop-item-test.true c.in-Row.is h))

pub returns : goal.returns
returns t c =
    let d = c.args.parts.now in
    let items = c.items_of-item-items.result.now in
    let is_its = c.items_of-item-items.ensures ∙ ap (λ (r : RowInfo). (flow_of d r.flow).items) c.row_of.ensures in
    let all = subst (All (λ item. All (NestsAtMost d (c.args.n - 1)) (row_in item)))
    (take_all c.loop-item.item-index items c.loop-item-test.false) c.loop-item.invariant in
    accepted (NestsAtMost d c.args.n c.args.row) (nests-from_items d c.args.n c.args.row items c.if-n-eq0.false is_its all)
