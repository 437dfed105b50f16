-- The numbers that words write.
use Rattle.std.proofs.Common.{◌≡◌, ℕ, ◌^◌, ◌<◌, false, IsTrue, List, [], ◌∷◌, None, Some, Result, Ok, Err}
use Rattle.std.proofs.Common.{refl, sym, ◌∙◌, ap, subst, arith}
use Rattle.std.specs.Char.{is_ascii_digit}
use Rattle.std.specs.Result.{result_ok}
use Rattle.std.specs.Str.Parse.{AllDigits, IsNumeral, ParsesUnsigned, digits_value, without_leading_plus}
use Rattle.std.proofs.lemmas.Bool.{and_parts, lt-ltb, le-ltb}
use Rattle.std.proofs.lemmas.Bool.Decides.{nat_tests}
use Rattle.mc_base.proofs.DecimalDigits.{digit_is}
use Rattle.mc_base.specs.Decimals.{are_digits, is_numeral}
use Rattle.mc_words.specs.Words.{number_below}

all_digits : (word : List ℕ) → IsTrue (are_digits word) → AllDigits 10 word
all_digits [] h = tt
all_digits (c ∷ cs) h =
    let parts = and_parts (is_ascii_digit c) (are_digits cs) h in
    let digit = digit_is c parts.0 in
    (omega (arith, digit.0, digit.1, digit.2), all_digits cs parts.1)

no_plus : (c : ℕ) (cs : List ℕ) → IsTrue (are_digits (c ∷ cs)) → without_leading_plus (c ∷ cs) ≡ c ∷ cs
no_plus c cs h =
    let digit = digit_is c (and_parts (is_ascii_digit c) (are_digits cs) h).0 in
    grind (arith, nat_tests, digit)

number_of : (k : ℕ) (word : List ℕ) → IsTrue (is_numeral word) → digits_value 10 word < 2 ^ k
    → number_below (2 ^ k) word ≡ Some (digits_value 10 word)
number_of k word numeral below = rw (numeral, lt-ltb (digits_value 10 word) (2 ^ k) below) refl

no_number : (k : ℕ) (word : List ℕ) → IsTrue (is_numeral word) → (digits_value 10 word < 2 ^ k → ⊥)
    → number_below (2 ^ k) word ≡ None
no_number k word numeral above = rw (numeral, le-ltb (digits_value 10 word) (2 ^ k) (omega (arith, above))) refl

pub number_read : {E : Type 0} (k : ℕ) (word : List ℕ) (r : Result ℕ E) → IsTrue (are_digits word) → ParsesUnsigned k 10 word r
    → result_ok r ≡ number_below (2 ^ k) word
number_read k [] (Ok n) digits read = let some = read.0.0.0 in absurd (omega arith)
number_read k [] (Err e) digits read = refl
number_read k (c ∷ cs) (Ok n) digits read =
    let plain = no_plus c cs digits in
    let value : n ≡ digits_value 10 (c ∷ cs) = read.1 ∙ ap (digits_value 10) plain in
    let below : digits_value 10 (c ∷ cs) < 2 ^ k = subst (λ w. digits_value 10 w < 2 ^ k) plain read.0.1 in
    ap (λ (m : ℕ). Some m) value ∙ sym (number_of k (c ∷ cs) digits below)
number_read k (c ∷ cs) (Err e) digits read =
    let plain = no_plus c cs digits in
    sym
    (no_number k (c ∷ cs) digits
    (λ below. read (
      subst (λ w. IsNumeral 10 w) (sym plain) (omega arith, all_digits (c ∷ cs) digits),
      subst (λ w. digits_value 10 w < 2 ^ k) (sym plain) below,
    )))

-- a word that isn't digits alone
pub no_digits : (k : ℕ) (word : List ℕ) → are_digits word ≡ false → None ≡ number_below (2 ^ k) word
no_digits k [] other = refl
no_digits k (c ∷ cs) other = rw other refl

pub ruleset number_lemmas = (number_read, no_digits)
