-- Reading a decimal number: its sign, then what stands before and after the first point.
use Rattle.std.specs.Prelude.{ℕ, Bool, true, false, ◌==◌, if◌then◌else◌, List, [], ◌∷◌, Option, Some, None}
use Rattle.mc_base.specs.declared.decimal.Decimal.{Decimal}
use Rattle.mc_base.specs.Decimals.{are_parts, decimal_of}

-- what stands before and after the first point
abbrev pub parts_at : List ℕ → List ℕ × Option (List ℕ)
parts_at [] = ([], None)
parts_at (b ∷ bs) = if b == 46 then ([], Some bs) else (b ∷ (parts_at bs).0, (parts_at bs).1)

-- whether a minus sign stands first, and what follows the sign
abbrev pub sign_at : List ℕ → Bool × List ℕ
sign_at [] = (false, [])
sign_at (b ∷ bs) = if b == 45 then (true, bs) else (if b == 43 then (false, bs) else (false, b ∷ bs))

abbrev pub unsigned_at : Bool → List ℕ → Option (List ℕ) → Option Decimal
unsigned_at negative whole fraction = if are_parts whole fraction then Some (decimal_of negative whole fraction) else None

unfoldable pub decimal_at : List ℕ → Option Decimal
decimal_at text = unsigned_at (sign_at text).0 (parts_at (sign_at text).1).0 (parts_at (sign_at text).1).1
