-- Decimal numbers as style sheets write them (CSS Syntax Module Level 3, section 4.3.12, without an exponent): an optional
-- sign, digits, and optionally a point with at least one digit after it. Digits before a point may be missing.
use Rattle.std.specs.Prelude.{◌≡◌, ℕ, ◌+◌, ◌*◌, ◌^◌, min, Bool, true, false, IsTrue, ◌&&◌, List, [], ◌∷◌, ◌++◌, take, replicate}
use Rattle.std.specs.Prelude.{codes, Option, Some, None}
use Rattle.std.specs.Char.{is_ascii_digit}
use Rattle.std.specs.List.{list_all}
use Rattle.std.specs.Str.Parse.{digits_value}
use Rattle.mc_base.specs.declared.decimal.Decimal.{Decimal}

pub data Sign : Type 0 where
  no_sign : Sign
  plus : Sign
  minus : Sign

abbrev pub sign_text : Sign → List ℕ
sign_text no_sign = []
sign_text plus = codes "+"
sign_text minus = codes "-"

abbrev pub is_minus : Sign → Bool
is_minus no_sign = false
is_minus plus = false
is_minus minus = true

-- the digits after a point, if one stands there
abbrev pub fraction_text : Option (List ℕ) → List ℕ
fraction_text None = []
fraction_text (Some digits) = codes "." ++ digits

abbrev pub are_digits : List ℕ → Bool
are_digits bytes = list_all is_ascii_digit bytes

abbrev pub is_numeral : List ℕ → Bool
is_numeral [] = false
is_numeral (b ∷ bs) = are_digits (b ∷ bs)

-- what may stand before and after the point
abbrev pub are_parts : List ℕ → Option (List ℕ) → Bool
are_parts whole None = is_numeral whole
are_parts whole (Some fraction) = are_digits whole && is_numeral fraction

-- the number before the point, of which nothing above 999,999,999 is told apart
abbrev pub whole_value : List ℕ → ℕ
whole_value digits = min (digits_value 10 digits) 999999999

-- the first nine digits after the point, with zeros for those that are missing
abbrev pub first_nine : List ℕ → List ℕ
first_nine digits = take 9 (digits ++ replicate 9 48)

abbrev pub fraction_value : Option (List ℕ) → ℕ
fraction_value None = 0
fraction_value (Some digits) = digits_value 10 (first_nine digits)

abbrev pub decimal_of : Bool → List ℕ → Option (List ℕ) → Decimal
decimal_of negative whole fraction =
    record { negative = negative; billionths = whole_value whole * 10 ^ 9 + fraction_value fraction }

-- the text writes this number
pub record IsDecimal (text : List ℕ) (number : Decimal) : Type 0 where
  pub sign : Sign
  pub whole : List ℕ
  pub fraction : Option (List ℕ)
  pub parts : IsTrue (are_parts whole fraction)
  pub spelled : text ≡ sign_text sign ++ (whole ++ fraction_text fraction)
  pub value : number ≡ decimal_of (is_minus sign) whole fraction
