-- The argument of :nth-child (Selectors 3, section 6.6.5.2), read over all that is written in it without white space: odd, even,
-- a number with an optional sign, or an+b.
use Rattle.std.specs.Prelude.{ℕ, ◌+◌, ◌*◌, ◌-◌, ◌==◌, min, ℤ, pos, ◌-ℤ◌, List, [], ◌∷◌, ◌++◌, take, drop, length, codes, Bool}
use Rattle.std.specs.Prelude.{true, false, ◌||◌, if◌then◌else◌, Option, Some, None}
use Rattle.std.specs.Char.{is_ascii_digit}
use Rattle.css_tokens.specs.declared.lexeme.Lexeme.{Lexeme}
use Rattle.css_tokens.specs.declared.lexeme.Symbol.{Symbol}
use Rattle.css_tokens.specs.declared.lexeme.Symbol.TheVariants.{Ident, Number, Dimension, Delim, Space}
use Rattle.css_tokens.specs.Facts.{is_word}
use Rattle.css_prelude.specs.declared.nth.Step.{Step}
use Rattle.css_prelude.specs.Options.{◌>>=◌}

abbrev pub sign : ℕ → Option (List ℕ × List ℕ)
sign c = if c == 43 then Some (43 ∷ [], []) else (if c == 45 then Some (45 ∷ [], []) else None)

-- a lexeme as it is written, in two parts; white space is left out
abbrev pub spelled_in : Symbol → Option (List ℕ × List ℕ)
spelled_in (Ident text) = Some (text, [])
spelled_in (Number digits) = Some (digits, [])
spelled_in (Dimension digits unit) = Some (digits, unit)
spelled_in Space = Some ([], [])
spelled_in (Delim c) = sign c
spelled_in _ = None

abbrev pub spelled : Lexeme → Option (List ℕ × List ℕ)
spelled x = spelled_in x.symbol

-- a text, and all that is written after it
abbrev pub text_from : List ℕ → List Lexeme → Option (List ℕ)
text_from text [] = Some text
text_from text (x ∷ xs) = spelled x >>= λ t. text_from ((text ++ t.0) ++ t.1) xs

-- whether a minus stands first, and what stands after the sign
abbrev pub sign_at : List ℕ → Bool × List ℕ
sign_at [] = (false, [])
sign_at (b ∷ bs) = if b == 45 then (true, bs) else (if b == 43 then (false, bs) else (false, b ∷ bs))

abbrev pub digits_len : List ℕ → ℕ
digits_len [] = 0
digits_len (b ∷ bs) = if is_ascii_digit b then (1 + digits_len bs) else 0

-- the number of digits after those of a number, cut at 999,999,999
abbrev pub number_from : ℕ → List ℕ → ℕ
number_from n [] = n
number_from n (d ∷ ds) = number_from (min (n * 10 + (d - 48)) 999999999) ds

abbrev pub with_sign : Bool → ℕ → ℤ
with_sign negative n = if negative then (pos 0 -ℤ pos n) else pos n

abbrev pub signed_number : Bool × List ℕ → ℤ
signed_number x = with_sign x.0 (number_from 0 x.1)

-- after the n: nothing, or a sign and digits
unfoldable pub offset_at : List ℕ → Option ℤ
offset_at text =
    if length text == 0 then Some (pos 0)
    else (if length (sign_at text).1 == length text then None
    else (if length (sign_at text).1 == 0 then None
    else (if digits_len (sign_at text).1 == length (sign_at text).1 then Some (signed_number (sign_at text)) else None)))

abbrev pub no_step : Bool → List ℕ → Option Step
no_step negative [] = None
no_step negative (d ∷ ds) = Some (record { step = pos 0; offset = with_sign negative (number_from 0 (d ∷ ds)) })

-- the a of an+b
abbrev pub factor : Bool → List ℕ → ℤ
factor negative [] = with_sign negative 1
factor negative (d ∷ ds) = with_sign negative (number_from 0 (d ∷ ds))

-- digits after a sign, and what stands after them
abbrev pub counted : Bool → List ℕ → List ℕ → Option Step
counted negative digits [] = no_step negative digits
counted negative digits (b ∷ bs) =
    if (b == 110) || (b == 78) then (offset_at bs >>= λ offset. Some (record { step = factor negative digits; offset = offset }))
    else None

abbrev pub signed_step : Bool × List ℕ → Option Step
signed_step x = counted x.0 (take (digits_len x.1) x.1) (drop (digits_len x.1) x.1)

unfoldable pub step_of : List ℕ → Option Step
step_of text =
    if is_word text (codes "odd") then Some (record { step = pos 2; offset = pos 1 })
    else (if is_word text (codes "even") then Some (record { step = pos 2; offset = pos 0 })
    else signed_step (sign_at text))

abbrev pub nth_of : List Lexeme → Option Step
nth_of xs = text_from [] xs >>= step_of
