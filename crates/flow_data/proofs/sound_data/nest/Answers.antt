use Rattle.std.proofs.Common.{◌<◌, All, EachIndex}
use Rattle.flow_data.specs.Flows.{rows_in, flow_in}
use Rattle.flow_data.specs.Soundness.{IsInnerRow, NestsAtMost, stacks_within}
use Rattle.flow_data.proofs.Verdicts.{same_fact}
use Rattle.flow_data.proofs.sound_data.nest.Goals as goal

pub returns-then-rows_nest : goal.returns-then-rows_nest
returns-then-rows_nest c =
    let d = c.args.parts.now in
    let Inner : Type 0 = EachIndex d.rows (λ outer. All (IsInnerRow d outer) (rows_in (flow_in d outer))) in
    let Nested : Type 0 = EachIndex d.rows (NestsAtMost d 3) in
    let Later : Type 0 = EachIndex d.stacks (λ s. All (λ named. s < named) (stacks_within d s)) in
    same_fact (Inner × Nested × Later) c.stacks_name_later.ensures
    (λ later. (
      c.inner_rows_are_sound.ensures.0 c.if-not-inner_rows_are_sound.false,
      c.rows_nest.ensures.0 c.if-rows_nest.true,
      later,
    )) (λ all. all.2)
