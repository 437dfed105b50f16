-- Lengths in whole units, 64 to a px, rounded down (CSS Values and Units 3, sections 5.1 and 5.2). A greater one than 2^62
-- counts as 2^62. `em` and `rem` stand for font sizes: which ones, the property says. No number here is negative.
use Rattle.std.specs.Prelude.{ℕ, ◌*◌, ◌/◌, ◌^◌, min, List, codes, if◌then◌else◌}
use Rattle.std.specs.Str.{bytes_eq}
use Rattle.mc_base.specs.declared.decimal.Decimal.{Decimal}
use Rattle.css_computed.specs.declared.length.FontSizes.{FontSizes}
use Rattle.css_computed.specs.declared.length.Scale.{Scale}

-- so many units, as a fraction
abbrev pub scale : ℕ → ℕ → Scale
scale over under = record { over = over; under = under }

-- what 1 of a unit of length is: 1in is 96px and 2.54cm, 1pt is 1/72in, 1pc is 12pt, and what is left is `px`
unfoldable pub scale_of : FontSizes → List ℕ → Scale
scale_of sizes unit =
    if bytes_eq unit (codes "em") then scale sizes.em 1 else (
    if bytes_eq unit (codes "rem") then scale sizes.rem 1 else (
    if bytes_eq unit (codes "pt") then scale (64 * 4) 3 else (
    if bytes_eq unit (codes "pc") then scale (64 * 16) 1 else (
    if bytes_eq unit (codes "in") then scale (64 * 96) 1 else (
    if bytes_eq unit (codes "cm") then scale (64 * 4800) 127 else (
    if bytes_eq unit (codes "mm") then scale (64 * 480) 127 else
    scale 64 1))))))

-- so many times a fraction
abbrev pub scaled : Decimal → Scale → ℕ
scaled value fraction = min (value.billionths * fraction.over / (10 ^ 9 * fraction.under)) (2 ^ 62)

abbrev pub length_of : FontSizes → Decimal → List ℕ → ℕ
length_of sizes value unit = scaled value (scale_of sizes unit)

-- a percentage of a length
abbrev pub percent_of : Decimal → ℕ → ℕ
percent_of value base = scaled value (scale base 100)
