use Rattle.std.proofs.Common.{arith}
use Rattle.page_views.proofs.Counted.{items_fit}
use Rattle.page_views.proofs.summary.items_in.Goals as goal

pub overflow_add-items : goal.overflow_add-items
overflow_add-items c =
    let fit = items_fit c.args.flows.now c.flow_counts-counts.ensures.sound c.loop-flow.flow (let t = c.loop-flow-test.true in
    let f = c.flow_counts-counts.ensures.flows in omega (arith, t, f)) in
    let one = c.from-items.ensures in
    let two = c.item_count.ensures in
    let so_far = c.loop-flow.invariant in
    omega (arith, fit, one, two, so_far)
