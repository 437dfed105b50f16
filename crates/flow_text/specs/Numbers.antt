-- Numbers as a flow file spells them: decimal digits without leading zeros, at most 19 of them. This is the project's own.
use Rattle.std.specs.Prelude.{ℕ, ◌==◌, nat_le, List, [], ◌∷◌, length, take, drop, Bool, true, false, ◌&&◌, not, if◌then◌else◌}
use Rattle.std.specs.Prelude.{Option, Some, None, ◌^◌, ◌<◌}
use Rattle.std.specs.Char.{is_ascii_digit}
use Rattle.std.specs.List.{prefix_len}
use Rattle.std.specs.Fmt.{decimal}
use Rattle.std.specs.Str.Parse.{digits_value}

-- what has at most 19 digits
abbrev pub IsNumber : ℕ → Type 0
IsNumber n = n < 10 ^ 19

-- a number after a space
abbrev pub field : ℕ → List ℕ
field n = 32 ∷ decimal n

-- how many digits stand at the front
abbrev pub digits_len : List ℕ → ℕ
digits_len bytes = prefix_len is_ascii_digit bytes

abbrev pub is_numeral : List ℕ → Bool
is_numeral [] = false
is_numeral (d ∷ []) = true
is_numeral (d ∷ e ∷ ds) = not (d == 48) && nat_le (length (d ∷ e ∷ ds)) 19

-- the number at the front, and what follows it
unfoldable pub number_at : List ℕ → Option (ℕ × List ℕ)
number_at bytes = if is_numeral (take (digits_len bytes) bytes) then Some
    (digits_value 10 (take (digits_len bytes) bytes), drop (digits_len bytes) bytes) else None

abbrev pub field_at : List ℕ → Option (ℕ × List ℕ)
field_at [] = None
field_at (b ∷ bytes) = if b == 32 then number_at bytes else None
