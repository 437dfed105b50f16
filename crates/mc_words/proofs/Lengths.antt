-- The lengths that words write.
use Rattle.std.proofs.Common.{◌≡◌, ℕ, ◌*◌, ◌/◌, ◌^◌, List, Option, None, Some, refl, sym, arith}
use Rattle.std.specs.Prelude.{IfSome, IfNone}
use Rattle.mc_base.proofs.DecimalForms.{decimal_at-text, IsDecimal-decimal_at}
use Rattle.mc_base.specs.DecimalReading.{decimal_at}
use Rattle.mc_base.specs.Decimals.{IsDecimal}
use Rattle.mc_base.specs.declared.decimal.Decimal.{Decimal}

-- a number that was read is the one that the text writes
pub is_read : (text : List ℕ) (answer : Option Decimal) → IfSome answer (IsDecimal text)
    → IfNone answer ((number : Decimal) → ¬ IsDecimal text number) → answer ≡ decimal_at text
is_read text None found none = by_answer (decimal_at text) refl
  where
    by_answer : (a : Option Decimal) → decimal_at text ≡ a → None ≡ decimal_at text
    by_answer None is = sym is
    by_answer (Some number) is = absurd (none number (IsDecimal-decimal_at text number is))
is_read text (Some number) found none = sym (decimal_at-text text number found)

-- a unit is 15,625,000 billionths of a px
pub whole_units : (n : ℕ) → n / 15625000 ≡ n * 64 / 10 ^ 9
whole_units n = omega arith

pub ruleset length_lemmas = (is_read, whole_units)
