use Rattle.std.proofs.Common.{◌≡◌, ◌==◌, if◌then◌else◌, EachIndex, flat_map}
use Rattle.flow_data.specs.Flows.{rows_in}
use Rattle.flow_data.specs.Soundness.{count_of, flow_owners, stacks_in}
use Rattle.flow_data.proofs.Verdicts.{ok_same}
use Rattle.flow_data.proofs.sound_data.belong.Goals as goal

pub returns : goal.returns
returns c =
    let d = c.args.parts.now in
    let Flows : Type 0 = EachIndex d.flows (λ f. count_of f (flow_owners d) ≡ 1) in
    let Rows : Type 0 = EachIndex d.rows (λ r. count_of r (flat_map rows_in d.flows) ≡ 1) in
    let Stacks : Type 0 = EachIndex d.stacks (λ s. count_of s (flat_map stacks_in d.flows) ≡ (if s == 0 then 0 else 1)) in
    ok_same (Flows × Rows × Stacks) c.stacks_belong.result c.stacks_belong.ensures
    (λ stacks. (
      c.in_ok-flows_belong.ensures.0 c.if-not-branch.false,
      c.in_ok-rows_belong.ensures.0 c.if-not-branch-2.false,
      stacks,
    )) (λ all. all.2)
