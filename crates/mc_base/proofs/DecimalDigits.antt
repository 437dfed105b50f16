-- The numbers that digits before and after a point write.
use Rattle.std.proofs.Common.{◌≡◌, ℕ, zero, suc, ◌+◌, ◌*◌, ◌-◌, ◌<◌, ◌≤◌, min, IsTrue, List, [], ◌∷◌, ◌++◌, length, take, get_or}
use Rattle.std.proofs.Common.{replicate, ap, sym, ◌∙◌, arith}
use Rattle.std.proofs.Math.ListN.{get_or-append}
use Rattle.std.proofs.Math.Seq.{get_or-append_right}
use Rattle.std.proofs.lemmas.List.{length-append, length-take, length-replicate, get_or-take, get_or-replicate}
use Rattle.std.specs.Char.{is_ascii_digit, digit_value}
use Rattle.std.specs.Str.Parse.{digits_value}
use Rattle.std.proofs.lemmas.Bool.{and_parts}
use Rattle.std.proofs.lemmas.Bool.Decides.{nat_tests}
use Rattle.std.proofs.lemmas.Int.Digits.{digits_value_more}
use Rattle.mc_base.specs.Decimals.{are_digits, whole_value, first_nine}

pub digit_is : (b : ℕ) → IsTrue (is_ascii_digit b) → (48 ≤ b) × (b ≤ 57) × (digit_value b ≡ b - 48)
digit_is b h = (grind (arith, nat_tests), grind (arith, nat_tests), grind (arith, nat_tests))

pub is_digit_at : (digits : List ℕ) (i : ℕ) → IsTrue (are_digits digits) → i < length digits
    → IsTrue (is_ascii_digit (get_or digits i 0))
is_digit_at [] i h below = absurd (omega arith)
is_digit_at (b ∷ bs) zero h below = (and_parts (is_ascii_digit b) (are_digits bs) h).0
is_digit_at (b ∷ bs) (suc i) h below = is_digit_at bs i (and_parts (is_ascii_digit b) (are_digits bs) h).1 (omega arith)

cut_again : (v d : ℕ) → min (min v 999999999 * 10 + d) 999999999 ≡ min (v * 10 + d) 999999999
cut_again v d = omega arith

pub whole_value_more : (digits : List ℕ) (i : ℕ) → IsTrue (are_digits digits) → i < length digits
    → whole_value (take (i + 1) digits) ≡ min (whole_value (take i digits) * 10 + (get_or digits i 0 - 48)) 999999999
whole_value_more digits i h below =
    let digit = digit_is (get_or digits i 0) (is_digit_at digits i h below) in
    rw (digits_value_more 10 digits i below, digit.2) (sym (cut_again (digits_value 10 (take i digits)) (get_or digits i 0 - 48)))

pub length-first_nine : (digits : List ℕ) → length (first_nine digits) ≡ 9
length-first_nine digits = simp (length-take, length-append, length-replicate) (omega arith)

pub first_nine-in : (digits : List ℕ) (place : ℕ) → place < 9 → place < length digits
    → get_or (first_nine digits) place 0 ≡ get_or digits place 0
first_nine-in digits place few h = get_or-take 9 (digits ++ replicate 9 48) place 0 few
    ∙ get_or-append digits (replicate 9 48) 0 place h

pub first_nine-past : (digits : List ℕ) (place : ℕ) → place < 9 → length digits ≤ place → get_or (first_nine digits) place 0 ≡ 48
first_nine-past digits place few h =
    get_or-take 9 (digits ++ replicate 9 48) place 0 few
    ∙ get_or-append_right digits (replicate 9 48) place 0 h
    ∙ get_or-replicate 9 (place - length digits) 48 0 (omega arith)

pub first_nine_more : (digits : List ℕ) (place : ℕ) → place < 9
    → digits_value 10 (take (place + 1) (first_nine digits)) ≡ digits_value 10 (take place (first_nine digits)) * 10 + digit_value
    (get_or (first_nine digits) place 0)
first_nine_more digits place few = digits_value_more 10 (first_nine digits) place (rw length-first_nine few)

pub digit_more : (digits : List ℕ) (place : ℕ) → IsTrue (are_digits digits) → place < 9 → place < length digits
    → digits_value 10 (take (place + 1) (first_nine digits)) ≡ digits_value 10 (take place (first_nine digits)) * 10
    + (get_or digits place 0 - 48)
digit_more digits place h few below =
    let digit = digit_is (get_or digits place 0) (is_digit_at digits place h below) in
    first_nine_more digits place few
    ∙ ap (λ d. digits_value 10 (take place (first_nine digits)) * 10 + d)
    (ap digit_value (first_nine-in digits place few below) ∙ digit.2)

pub no_digit_more : (digits : List ℕ) (place : ℕ) → place < 9 → length digits ≤ place
    → digits_value 10 (take (place + 1) (first_nine digits)) ≡ digits_value 10 (take place (first_nine digits)) * 10 + 0
no_digit_more digits place few past =
    first_nine_more digits place few
    ∙ ap (λ d. digits_value 10 (take place (first_nine digits)) * 10 + d)
    (ap digit_value (first_nine-past digits place few past))
