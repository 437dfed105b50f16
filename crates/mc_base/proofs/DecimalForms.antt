-- What is read is what a text writes, by its forms.
use Rattle.std.proofs.Common.{◌≡◌, ℕ, Bool, true, false, IsTrue, ◌==◌, IfSome, IfNone, List, [], ◌∷◌, ◌++◌, Option, Some, None}
use Rattle.std.proofs.Common.{refl, ap, sym, ◌∙◌, arith}
use Rattle.std.specs.Char.{is_ascii_digit}
use Rattle.std.proofs.lemmas.Bool.{and_parts, eqb-true}
use Rattle.std.proofs.lemmas.Bool.Decides.{nat_tests}
use Rattle.mc_base.specs.declared.decimal.Decimal.{Decimal}
use Rattle.mc_base.specs.Decimals.{Sign, no_sign, plus, minus, sign_text, is_minus, fraction_text, are_digits, is_numeral}
use Rattle.mc_base.specs.Decimals.{are_parts, decimal_of, IsDecimal}
use Rattle.mc_base.specs.DecimalReading.{parts_at, sign_at, unsigned_at, decimal_at}

no_sign_byte : (b : ℕ) → IsTrue (is_ascii_digit b) → ((b == 45) ≡ false) × ((b == 43) ≡ false) × ((b == 46) ≡ false)
no_sign_byte b h = (grind (arith, nat_tests), grind (arith, nat_tests), grind (arith, nat_tests))

whole_digits : (whole : List ℕ) (fraction : Option (List ℕ)) → IsTrue (are_parts whole fraction) → IsTrue (are_digits whole)
whole_digits [] fraction h = refl
whole_digits (b ∷ bs) None h = h
whole_digits (b ∷ bs) (Some digits) h = (and_parts (are_digits (b ∷ bs)) (is_numeral digits) h).0

sign_at-unsigned : (whole : List ℕ) (fraction : Option (List ℕ)) → IsTrue (are_parts whole fraction)
    → sign_at (whole ++ fraction_text fraction) ≡ (false, whole ++ fraction_text fraction)
sign_at-unsigned [] None h = refl
sign_at-unsigned [] (Some digits) h = refl
sign_at-unsigned (b ∷ bs) fraction h =
    let first = no_sign_byte b (and_parts (is_ascii_digit b) (are_digits bs) (whole_digits (b ∷ bs) fraction h)).0 in
    rw (first.0, first.1) refl

sign_at-text : (sign : Sign) (whole : List ℕ) (fraction : Option (List ℕ)) → IsTrue (are_parts whole fraction)
    → sign_at (sign_text sign ++ (whole ++ fraction_text fraction)) ≡ (is_minus sign, whole ++ fraction_text fraction)
sign_at-text no_sign whole fraction h = sign_at-unsigned whole fraction h
sign_at-text plus whole fraction h = refl
sign_at-text minus whole fraction h = refl

parts_at-digits : (whole : List ℕ) (fraction : Option (List ℕ)) → IsTrue (are_digits whole)
    → parts_at (whole ++ fraction_text fraction) ≡ (whole, fraction)
parts_at-digits [] None h = refl
parts_at-digits [] (Some digits) h = refl
parts_at-digits (b ∷ bs) fraction h =
    let both = and_parts (is_ascii_digit b) (are_digits bs) h in
    let first = no_sign_byte b both.0 in
    rw (first.2, parts_at-digits bs fraction both.1) refl

pub decimal_at-text : (text : List ℕ) (number : Decimal) → IsDecimal text number → decimal_at text ≡ Some number
unfolding decimal_at
decimal_at-text text number d =
    let signed : sign_at text ≡ (is_minus d.sign, d.whole ++ fraction_text d.fraction) =
    rw d.spelled (sign_at-text d.sign d.whole d.fraction d.parts) in
    let parted = parts_at-digits d.whole d.fraction (whole_digits d.whole d.fraction d.parts) in
    rw (signed, parted, d.parts) (ap (λ x. Some x) (sym d.value))

-- a text begins with the sign that is read
abbrev IsSigned : List ℕ → Type 0
IsSigned text = (sign : Sign) × (is_minus sign ≡ (sign_at text).0) × (text ≡ sign_text sign ++ (sign_at text).1)

signed : (text : List ℕ) → IsSigned text
signed [] = (no_sign, refl, refl)
signed (b ∷ bs) = by_tests (b == 45) refl (b == 43) refl
  where
    by_tests : (m : Bool) → (b == 45) ≡ m → (p : Bool) → (b == 43) ≡ p → IsSigned (b ∷ bs)
    by_tests true is p also = rw is (minus, refl, ap (λ x. x ∷ bs) (eqb-true b 45 is))
    by_tests false is true also = rw (is, also) (plus, refl, ap (λ x. x ∷ bs) (eqb-true b 43 also))
    by_tests false is false also = rw (is, also) (no_sign, refl, refl)

joined : (text : List ℕ) → text ≡ (parts_at text).0 ++ fraction_text (parts_at text).1
joined [] = refl
joined (b ∷ bs) = by_test (b == 46) refl (joined bs)
  where
    by_test : (t : Bool) → (b == 46) ≡ t → bs ≡ (parts_at bs).0 ++ fraction_text (parts_at bs).1
        → (b ∷ bs) ≡ (parts_at (b ∷ bs)).0 ++ fraction_text (parts_at (b ∷ bs)).1
    by_test true is rest = rw is (ap (λ x. x ∷ bs) (eqb-true b 46 is))
    by_test false is rest = rw is (ap (λ xs. b ∷ xs) rest)

settled : (negative : Bool) (whole : List ℕ) (fraction : Option (List ℕ)) (number : Decimal) (t : Bool)
    → are_parts whole fraction ≡ t → unsigned_at negative whole fraction ≡ Some number
    → IsTrue (are_parts whole fraction) × (number ≡ decimal_of negative whole fraction)
settled negative whole fraction number true is h =
    let same : Some (decimal_of negative whole fraction) ≡ Some number = rw is at h in
    (is, cc)
settled negative whole fraction number false is h = let none : None ≡ Some number = rw is at h in absurd cc

pub IsDecimal-decimal_at : (text : List ℕ) (number : Decimal) → decimal_at text ≡ Some number → IsDecimal text number
unfolding decimal_at
IsDecimal-decimal_at text number h =
    let front = signed text in
    let rest = (sign_at text).1 in
    let whole = (parts_at rest).0 in
    let fraction = (parts_at rest).1 in
    let both = settled (sign_at text).0 whole fraction number (are_parts whole fraction) refl h in
    record {
      sign = front.0;
      whole = whole;
      fraction = fraction;
      parts = both.0;
      spelled = front.2 ∙ ap (λ t. sign_text front.0 ++ t) (joined rest);
      value = both.1 ∙ ap (λ negative. decimal_of negative whole fraction) (sym front.1);
    }

pub found : (text : List ℕ) (answer : Option Decimal) → answer ≡ decimal_at text → IfSome answer (IsDecimal text)
found text None h = tt
found text (Some number) h = IsDecimal-decimal_at text number (sym h)

pub none : (text : List ℕ) (answer : Option Decimal) → answer ≡ decimal_at text
    → IfNone answer ((number : Decimal) → ¬ IsDecimal text number)
none text None h = λ number d. let same = decimal_at-text text number d in cc
none text (Some number) h = tt
