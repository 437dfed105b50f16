use Rattle.std.proofs.Common.{arith}
use Rattle.std.proofs.lemmas.Int.{ints}
use Rattle.line_breaker.proofs.Halves.{above_is}
use Rattle.line_breaker.proofs.height.extent_of.Goals as goal

pub overflow_sub-result : goal.overflow_sub-result
overflow_sub-result c = omega (arith, ints)

pub invariant_of-result : goal.invariant_of-result
invariant_of-result c = record {
  above_low = omega (arith, ints);
  above_high = omega (arith, ints);
  below_low = omega (arith, ints);
  below_high = omega (arith, ints);
  whole = omega (arith, ints);
}

pub returns-clause-above : goal.returns-clause-above
returns-clause-above c =
    above_is c.ascent-ascent.result c.descent-descent.result c.args.style.now.line _ _ _ c.half.result _ c.half.ensures.value
    (omega (arith, ints)) c.ascent-ascent.ensures.value c.descent-descent.ensures.value (omega (arith, ints))

pub returns-clause-below : goal.returns-clause-below
returns-clause-below c = let above = returns-clause-above c in omega (arith, ints, above)
