use Rattle.std.proofs.Common.{◌∙◌, ◌<◌, Option, ℕ, subst, length, sym, ap, arith, IfSome}
use Rattle.flow_data.specs.Flows.{flow_of, no_flow, no_item}
use Rattle.tree_lowering.specs.Lower.{stack_of_item}
use Rattle.tree_lowering.proofs.Places.{stack-known}
use Rattle.tree_lowering.proofs.cut.stack_at.Goals as goal

pub returns-clause-known : goal.returns-clause-known
returns-clause-known c =
    let d = c.args.flows.now in
    let sound = c.flow_counts.ensures.sound in
    let flows = c.flow_counts.ensures.flows in
    let in_flows = c.if-flow-flow_counts.false in
    let items = c.item_count.ensures in
    let in_items = c.if-k-item_count.false in
    let flow : c.args.flow < length d.flows = omega (arith, flows, in_flows) in
    let item : c.args.k < length (flow_of d c.args.flow).items = omega (arith, items, in_items) in
    subst (λ (o : Option ℕ). IfSome o (λ s. s < length d.stacks))
    (sym (c.stack_of.ensures ∙ ap stack_of_item c.item_in.ensures))
    (stack-known d _ ((sound.flows c.args.flow no_flow flow).items c.args.k no_item item))
