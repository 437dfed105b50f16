use Rattle.std.proofs.Common.{arith}
use Rattle.std.proofs.lemmas.Int.{ints, clamps}
use Rattle.line_breaker.proofs.height.with_image.Goals as goal

pub invariant_of-result : goal.invariant_of-result
invariant_of-result c = record {
  above_low = omega (arith, ints);
  above_high = omega (arith, ints, clamps);
  below_low = omega (arith, ints);
  below_high = omega (arith, ints, clamps);
  whole = omega (arith, ints);
}
