use Rattle.std.proofs.Common.{◌≤◌, ◌<◌, ◌∙◌, length, List, All, ap, get_or, subst}
use Rattle.std.proofs.lemmas.List.{take_all}
use Rattle.std.proofs.lemmas.List.Elements.{All-more}
use Rattle.flow_data.specs.Data.{Flow}
use Rattle.flow_data.specs.Soundness.{IsSoundFlow}
use Rattle.flow_data.proofs.Verdicts.{accepted}
use Rattle.flow_data.proofs.sound_data.flows_are_sound.Goals as goal

pub loop-flow-preserved : goal.loop-flow-preserved
loop-flow-preserved c =
    let d = c.args.parts.now in
    let k = c.loop-flow.flow-index in
    let flow = c.flow-item.result in
    let read = c.flow-item.is ∙ ap (λ (flows : List Flow). get_or flows k flow) c.as_slice-flow-items.ensures in
    let lt = subst (λ (flows : List Flow). k < length flows) c.as_slice-flow-items.ensures c.loop-flow-test.true in
    All-more (IsSoundFlow d) d.flows k flow lt c.loop-flow.invariant
    (subst (IsSoundFlow d) read (c.in_ok-is_sound_flow.ensures.0 c.if-not-branch.false))

pub returns : goal.returns
returns c =
    let d = c.args.parts.now in
    let end = subst (λ (flows : List Flow). length flows ≤ c.loop-flow.flow-index) c.as_slice-flow-items.ensures
    c.loop-flow-test.false in
    accepted (All (IsSoundFlow d) d.flows)
    (subst (All (IsSoundFlow d)) (take_all c.loop-flow.flow-index d.flows end) c.loop-flow.invariant)
