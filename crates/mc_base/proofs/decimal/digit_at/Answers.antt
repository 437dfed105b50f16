use Rattle.mc_base.proofs.DecimalDigits.{digit_more, no_digit_more}
use Rattle.mc_base.proofs.decimal.digit_at.Goals as goal

pub returns-then-place-digits-clause-digit : goal.returns-then-place-digits-clause-digit
returns-then-place-digits-clause-digit c =
    rw c.from.ensures (digit_more c.args.digits.now c.args.place c.requires.digits c.requires.few c.if-place-digits.true)

pub returns-else-place-digits-clause-digit : goal.returns-else-place-digits-clause-digit
returns-else-place-digits-clause-digit c = no_digit_more c.args.digits.now c.args.place c.requires.few c.if-place-digits.false
