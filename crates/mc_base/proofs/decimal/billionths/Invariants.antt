use Rattle.std.proofs.Common.{◌≡◌, ◌<◌, ◌^◌, take}
use Rattle.std.specs.Str.Parse.{digits_value}
use Rattle.mc_base.specs.Decimals.{first_nine}
use Rattle.mc_base.proofs.decimal.billionths.Given as goal

abbrev pub invariant-loop-place : goal.invariant-loop-place
invariant-loop-place l = record {
  small : l.value < 10 ^ l.place;
  so_far : l.value ≡ digits_value 10 (take l.place (first_nine l.digits));
}
