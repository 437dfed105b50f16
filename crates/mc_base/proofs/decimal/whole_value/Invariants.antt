use Rattle.std.proofs.Common.{◌≡◌, take}
use Rattle.mc_base.specs.Decimals.{whole_value}
use Rattle.mc_base.proofs.decimal.whole_value.Given as goal

abbrev pub invariant-loop-digit : goal.invariant-loop-digit
invariant-loop-digit l = l.value ≡ whole_value (take l.digit-index l.digits)
