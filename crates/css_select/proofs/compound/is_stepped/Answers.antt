use Rattle.std.proofs.Common.{◌+◌, w64, arith}
use Rattle.std.proofs.lemmas.Int.{ints, to_z-of_z}
use Rattle.css_select.proofs.Steps.{stepped_from, from_stepped}
use Rattle.css_select.proofs.compound.is_stepped.Goals as goal

pub returns : goal.returns
returns c =
    let step_is = to_z-of_z w64 c.args.step c.ranges.step in (
      λ t. stepped_from c.args.step _ c.args.offset (c.args.before + 1) _ step_is (c.are_steps.ensures.0 t) (omega (arith, ints)),
      λ h. c.are_steps.ensures.1 (from_stepped c.args.step _ c.args.offset (c.args.before + 1) _ step_is h (omega (arith, ints))),
    )
