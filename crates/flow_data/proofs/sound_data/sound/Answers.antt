use Rattle.std.proofs.Common.{◌<◌, ◌^◌, length}
use Rattle.std.proofs.lemmas.List.Elements.{All-from_get_or}
use Rattle.flow_data.specs.Data.{Stack}
use Rattle.flow_data.specs.Flows.{no_stack}
use Rattle.flow_data.specs.Soundness.{IsSound}
use Rattle.flow_data.proofs.Verdicts.{refused, not_so, ok_same}
use Rattle.flow_data.proofs.sound_data.sound.Goals as goal

pub returns-then-not-are_in_range : goal.returns-then-not-are_in_range
returns-then-not-are_in_range c =
    refused (IsSound c.args.parts.now) (λ s. not_so c.are_in_range.ensures c.if-not-are_in_range.true (
      s.rows,
      s.boxes,
      All-from_get_or (λ (s : Stack). (s.flow < length c.args.parts.now.flows) × (s.w < 2 ^ 60)) c.args.parts.now.stacks no_stack
          (λ k lt. ((s.stacks k lt).flow, (s.stacks k lt).w_limit)),
    ))

pub returns-then-not-nest : goal.returns-then-not-nest
returns-then-not-nest c =
    refused (IsSound c.args.parts.now)
    (λ s. not_so c.nest.ensures c.if-not-nest.true (s.inner_rows, s.nest_limit, λ k lt. (s.stacks k lt).later))

pub returns : goal.returns
returns c =
    let few = c.has_such_counts.ensures.0 c.if-not-has_such_counts.false in
    let ranges = c.are_in_range.ensures.0 c.if-not-are_in_range.false in
    let owners = c.in_ok-belong.ensures.0 c.if-not-branch-2.false in
    let nested = c.nest.ensures.0 c.if-not-nest.false in
    ok_same (IsSound c.args.parts.now) c.fits_across.result c.fits_across.ensures
    (λ across. record {
      flow_count = few.0;
      row_count = few.1;
      box_count = few.2;
      stack_count = few.3;
      some_stack = few.4;
      flows = c.in_ok-flows_are_sound.ensures.0 c.if-not-branch.false;
      rows = ranges.0;
      boxes = ranges.1;
      stacks = λ k lt. record {
        flow = (ranges.2 k no_stack lt).0;
        w_limit = (ranges.2 k no_stack lt).1;
        named = owners.2 k lt;
        later = nested.2 k lt;
      };
      flow_belongs = owners.0;
      row_belongs = owners.1;
      inner_rows = nested.0;
      nest_limit = nested.1;
      item_limit = c.items_are_few.ensures.0 c.if-not-items_are_few.false;
      heights = c.heights_are_low.ensures.0 c.if-not-heights_are_low.false;
      across = across;
    })
    (λ s. s.across)
