use Rattle.std.proofs.Common.{ap₂, ◌∙◌}
use Rattle.box_lines.specs.Sizes.{with_sizes}
use Rattle.box_lines.proofs.SizeSteps.{can_break, few_lines}
use Rattle.box_lines.proofs.breaking.lines_of.Goals as goal

pub lines-requires : goal.lines-requires
lines-requires g c = record {
  can = can_break c.args.fonts.now c.args.runs.now.styles c.args.node.now c.args.place.now.images c.in_ok-runs-in-Block.field-0
      c.requires.styles c.requires.named c.requires.small
      (c.in_ok-runs-in-Block.ensures ∙ ap₂ with_sizes c.as_slice.ensures c.pieces_of-pieces.ensures);
  kept = c.requires.kept;
}

pub returns-in_ok-runs-in-Block-clause-few : goal.returns-in_ok-runs-in-Block-clause-few
returns-in_ok-runs-in-Block-clause-few g c =
    few_lines c.args.runs.now.styles c.args.node.now c.args.place.now.images c.in_ok-runs-in-Block.field-0 c.lines.result
    c.requires.named (c.in_ok-runs-in-Block.ensures
    ∙ ap₂ with_sizes c.as_slice.ensures c.pieces_of-pieces.ensures) c.lines.ensures.few
