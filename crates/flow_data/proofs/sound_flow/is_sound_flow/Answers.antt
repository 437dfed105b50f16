use Rattle.flow_data.proofs.FilledBoxes.{sound_from_tests, tests_from_sound}
use Rattle.flow_data.proofs.sound_flow.is_sound_flow.Goals as goal

pub returns : goal.returns
returns c =
    let parts = c.has_sound_parts.ensures.0 c.if-not-has_sound_parts.false in
    let boxes = c.in_ok-are_sound_boxes.ensures.0 c.if-not-branch.false in
    let d = c.args.parts.now in
    let f = c.args.flow.now in (
      λ e. sound_from_tests d f parts.0 parts.1 parts.2 parts.3 boxes.0 boxes.1 boxes.2 (c.are_filled.ensures.0 e),
      λ sound. c.are_filled.ensures.1 (tests_from_sound d f sound),
    )
