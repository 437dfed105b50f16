use Rattle.std.proofs.Common.{arith}
use Rattle.std.proofs.lemmas.Int.Digits.{digits_value_more}
use Rattle.std.proofs.lemmas.Str.Parse.{digit_at}
use Rattle.flow_text.proofs.NumberLemmas.{one_more_fits, digit_is}
use Rattle.mc_draw.proofs.number.value_of.Goals as goal

pub overflow_mul-value : goal.overflow_mul-value
overflow_mul-value c = omega (
  arith,
  one_more_fits c.args.digits.now c.loop-digit.digit-index c.requires.all c.requires.few
      c.loop-digit-test.true,
)

pub overflow_sub-digit : goal.overflow_sub-digit
overflow_sub-digit c = omega (arith, digit_at c.args.digits.now c.loop-digit.digit-index c.requires.all c.loop-digit-test.true)

pub overflow_add-value : goal.overflow_add-value
overflow_add-value c =
    let range = digit_at c.args.digits.now c.loop-digit.digit-index c.requires.all c.loop-digit-test.true in
    omega (arith, one_more_fits c.args.digits.now c.loop-digit.digit-index c.requires.all c.requires.few c.loop-digit-test.true)

pub loop-digit-preserved : goal.loop-digit-preserved
loop-digit-preserved c =
    let range = digit_at c.args.digits.now c.loop-digit.digit-index c.requires.all c.loop-digit-test.true in
    let more = digits_value_more 10 c.args.digits.now c.loop-digit.digit-index c.loop-digit-test.true in
    let digit = digit_is _ range in
    omega arith
