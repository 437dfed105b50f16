use Rattle.std.proofs.Common.{◌≡◌, ◌∙◌, ap, sym, arith, length}
use Rattle.flow_list.specs.Data.{RowInfo}
use Rattle.flow_data.specs.Flows.{flow_in, flow_of}
use Rattle.tree_lowering.proofs.Places.{item-before}
use Rattle.tree_lowering.proofs.cut.+is_before_end.Goals as goal

pub returns-in-None : goal.returns-in-None
returns-in-None t c = λ yes.
    let d = c.args.flows.now in
    let cmp = c.cmp-2.ensures in
    let start = c.start.ensures in
    let lt = c.if-item-item_count.false in
    let item = c.item-item.ensures in
    let count : c.item_count.result ≡ length (flow_in d c.args.row).items =
    c.item_count.ensures ∙ ap (λ (i : RowInfo). length (flow_of d i.flow).items) c.row_at.ensures.same in
    item-before d (flow_in d c.args.row) c.args.place.now (λ less. c.in_default.not-Less (cc (cmp, start, less)))
    (sym c.rest.ensures ∙ c.in-None.is) (omega (arith, lt, item, count))
