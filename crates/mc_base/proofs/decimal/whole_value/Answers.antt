use Rattle.std.proofs.Common.{refl}
use Rattle.mc_base.proofs.DecimalDigits.{whole_value_more}
use Rattle.mc_base.proofs.decimal.whole_value.Goals as goal

pub loop-digit-preserved : goal.loop-digit-preserved
loop-digit-preserved c =
    let more = whole_value_more c.args.digits.now c.loop-digit.digit-index c.requires c.loop-digit-test.true in
    rw (more, c.min-value.ensures, c.from.ensures, c.loop-digit.invariant) refl
