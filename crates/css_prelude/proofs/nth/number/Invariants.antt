use Rattle.std.proofs.Common.{◌≡◌, ◌≤◌, drop}
use Rattle.css_prelude.specs.Nth.{number_from}
use Rattle.css_prelude.proofs.nth.number.Given as goal

abbrev pub invariant-loop-digit : goal.invariant-loop-digit
invariant-loop-digit l = record {
  so_far : number_from l.value (drop l.digit-index l.digits) ≡ number_from 0 l.digits;
  small : l.value ≤ 999999999;
}
