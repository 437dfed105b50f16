use Rattle.std.proofs.Common.{◌<◌, All, EachIndex, below_more, sym, subst, arith}
use Rattle.flow_data.specs.Data.{Stack}
use Rattle.flow_data.specs.Flows.{flow_of}
use Rattle.flow_data.specs.Soundness.{stacks_in, stacks_within, flows_within}
use Rattle.std.specs.Prelude.{flat_map}
use Rattle.flow_data.proofs.Verdicts.{refused, accepted, not_so}
use Rattle.flow_data.proofs.sound_stacks.stacks_name_later.Goals as goal

pub returns-then-not-names_later : goal.returns-then-not-names_later
returns-then-not-names_later c =
    let d = c.args.parts.now in
    let Later : Stack → Type 0 = λ (s : Stack). All (λ named. c.loop-stack.stack < named)
    (flat_map (λ f. stacks_in (flow_of d f)) (flows_within d 3 s.flow)) in
    refused (EachIndex d.stacks (λ s. All (λ named. s < named) (stacks_within d s))) (λ h.
    not_so c.names_later.ensures c.if-not-names_later.true
    (subst Later (sym c.stack_of.ensures) (h c.loop-stack.stack (omega arith))))

pub loop-stack-preserved : goal.loop-stack-preserved
loop-stack-preserved c =
    let d = c.args.parts.now in
    let Later : Stack → Type 0 = λ (s : Stack). All (λ named. c.loop-stack.stack < named)
    (flat_map (λ f. stacks_in (flow_of d f)) (flows_within d 3 s.flow)) in
    below_more (λ s. All (λ named. s < named) (stacks_within d s)) c.loop-stack.stack c.loop-stack.invariant
    (subst Later c.stack_of.ensures (c.names_later.ensures.0 c.if-not-names_later.false))

pub returns : goal.returns
returns c =
    let d = c.args.parts.now in
    accepted (EachIndex d.stacks (λ s. All (λ named. s < named) (stacks_within d s)))
    (λ k lt. c.loop-stack.invariant k (omega arith))
