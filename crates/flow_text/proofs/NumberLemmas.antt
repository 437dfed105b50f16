-- Digits, and the number that they spell.
use Rattle.std.proofs.Common.{◌≡◌, ℕ, zero, suc, ◌+◌, ◌*◌, ◌-◌, ◌^◌, ◌<◌, ◌≤◌, List, [], ◌∷◌, length, take, Bool, true, false}
use Rattle.std.proofs.Common.{refl, subst, arith}
use Rattle.std.proofs.Math.Nat.{pow-le-pow_right}
use Rattle.std.specs.Char.{digit_value, is_ascii_digit}
use Rattle.std.specs.Int.{IsInRange}
use Rattle.std.specs.Str.Parse.{digits_value, AllDigits}
use Rattle.std.proofs.lemmas.Bool.Decides.{nat_tests}
use Rattle.std.proofs.lemmas.Int.Digits.{digits_value-lt}
use Rattle.flow_text.specs.Numbers.{digits_len}

pub all_digits_take : (n : ℕ) (ds : List ℕ) → AllDigits 10 ds → AllDigits 10 (take n ds)
all_digits_take zero ds h = tt
all_digits_take (suc n) [] h = tt
all_digits_take (suc n) (d ∷ ds) h = (h.0, all_digits_take n ds h.1)

pub length-take-le : (n : ℕ) (ds : List ℕ) → length (take n ds) ≤ n
length-take-le zero ds = omega arith
length-take-le (suc n) [] = omega arith
length-take-le (suc n) (d ∷ ds) = omega (arith, length-take-le n ds)

pub digit_is : (c : ℕ) → IsInRange 48 57 c → digit_value c ≡ c - 48
digit_is c h = grind (arith, nat_tests)

-- a number of at most 18 digits has room for one more
pub one_more_fits : (ds : List ℕ) (i : ℕ) → AllDigits 10 ds → length ds ≤ 19 → i < length ds
    → digits_value 10 (take i ds) * 10 + 9 < 2 ^ 64
one_more_fits ds i h few below =
    let small = digits_value-lt 10 (take i ds) (all_digits_take i ds h) in
    let short : length (take i ds) ≤ 18 = omega (arith, length-take-le i ds) in
    let room : 10 ^ length (take i ds) ≤ 10 ^ 18 = pow-le-pow_right (omega arith) short in
    omega arith

digits_of_test : (c : ℕ) → is_ascii_digit c ≡ true → digit_value c < 10
digits_of_test c h = grind (arith, nat_tests)

one_more : (n : ℕ) → suc n ≡ 1 + n
one_more n = omega arith

pub all_digits_front : (bytes : List ℕ) → AllDigits 10 (take (digits_len bytes) bytes)
all_digits_front [] = tt
all_digits_front (b ∷ bytes) = by_test (is_ascii_digit b) refl (all_digits_front bytes)
  where
    by_test : (t : Bool) → is_ascii_digit b ≡ t → AllDigits 10 (take (digits_len bytes) bytes)
        → AllDigits 10 (take (digits_len (b ∷ bytes)) (b ∷ bytes))
    by_test true is h = rw is (subst (λ (n : ℕ). AllDigits 10 (take n (b ∷ bytes))) (one_more (digits_len bytes))
        (digits_of_test b is, h))
    by_test false is h = rw is tt
