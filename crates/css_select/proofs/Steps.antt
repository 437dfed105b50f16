-- Numbers that are some steps from an offset.
use Rattle.std.proofs.Common.{◌≡◌, nat_eq, true, ℕ, zero, suc, ◌*◌, ◌/◌, ◌%◌, ℤ, pos, negsuc, ◌-ℤ◌, ◌*ℤ◌, neg_ℤ, ◌≤ℤ◌, ◌<ℤ◌, refl}
use Rattle.std.proofs.Common.{sym, ap, subst, ◌∙◌, arith}
use Rattle.std.proofs.lemmas.Bool.{eqb-true, eq-eqb}
use Rattle.std.proofs.lemmas.Int.{ints}
use Rattle.std.proofs.Math.Nat.{mul-mod_right}
use Rattle.std.specs.Prelude.{unsigned_abs}
use Rattle.css_select.specs.Tests.{AreSteps, GoesTheWay, IsStepped}

pub stepped_from : (step step' offset : ℤ) (number : ℕ) (way : ℤ) → step' ≡ step → AreSteps step' way → way ≡ pos number -ℤ offset
    → IsStepped step offset number
stepped_from step step' offset number way same h is = by (let P : ℤ → Type 0 = λ v. AreSteps v way in subst P same h)
  where
    by : AreSteps step way → IsStepped step offset number
    by (k, e) = (k, omega (arith, ints))

pub from_stepped : (step step' offset : ℤ) (number : ℕ) (way : ℤ) → step' ≡ step → IsStepped step offset number
    → way ≡ pos number -ℤ offset → AreSteps step' way
from_stepped step step' offset number way same h is = let P : ℤ → Type 0 = λ v. AreSteps v way in subst P (sym same) (by h)
  where
    by : IsStepped step offset number → AreSteps step way
    by (k, e) = (k, omega (arith, ints))

-- the size of the way is a multiple of the step's, and it goes the same way
pub steps_from_rest : (step way : ℤ) → (step ≡ pos 0 → ⊥) → (pos 0 <ℤ step → pos 0 ≤ℤ way) → (step <ℤ pos 0 → way ≤ℤ pos 0)
    → unsigned_abs way % unsigned_abs step ≡ 0 → AreSteps step way
steps_from_rest (pos zero) way some up down rest = absurd (some refl)
steps_from_rest (pos (suc s)) (pos m) some up down rest =
    let whole : m ≡ suc s * (m / suc s) = omega arith in
    (m / suc s, ap (λ (v : ℕ). pos v) whole)
steps_from_rest (pos (suc s)) (negsuc m) some up down rest = let below = up (omega (arith, ints)) in absurd (omega (arith, ints))
steps_from_rest (negsuc s) (pos m) some up down rest = let above = down (omega (arith, ints)) in (0, omega (arith, ints))
steps_from_rest (negsuc s) (negsuc m) some up down rest =
    let whole : suc m ≡ suc s * (suc m / suc s) = omega arith in
    (suc m / suc s, ap (λ (v : ℕ). neg_ℤ (pos v)) whole)

size_of_neg : (n : ℕ) → unsigned_abs (neg_ℤ (pos n)) ≡ n
size_of_neg zero = refl
size_of_neg (suc n) = refl

size_of_product : (step : ℤ) (k : ℕ) → unsigned_abs (step *ℤ pos k) ≡ unsigned_abs step * k
size_of_product (pos s) k = refl
size_of_product (negsuc s) k = size_of_neg (suc s * k)

pub rest_from_steps : (step way : ℤ) → (step ≡ pos 0 → ⊥) → AreSteps step way → unsigned_abs way % unsigned_abs step ≡ 0
rest_from_steps step way some (k, e) = rw (e, size_of_product step k) (multiple step k some)
  where
    multiple : (step : ℤ) (k : ℕ) → (step ≡ pos 0 → ⊥) → (unsigned_abs step * k) % unsigned_abs step ≡ 0
    multiple (pos zero) k some = absurd (some refl)
    multiple (pos (suc s)) k some = mul-mod_right (suc s) k
    multiple (negsuc s) k some = mul-mod_right (suc s) k

pub up_from_steps : (step way : ℤ) → AreSteps step way → pos 0 <ℤ step → pos 0 ≤ℤ way
up_from_steps (pos s) way (k, e) up = omega (arith, ints)
up_from_steps (negsuc s) way (k, e) up = absurd (omega (arith, ints))

pub down_from_steps : (step way : ℤ) → AreSteps step way → step <ℤ pos 0 → way ≤ℤ pos 0
down_from_steps (pos s) way (k, e) down = absurd (omega (arith, ints))
down_from_steps (negsuc s) way (k, e) down = omega (arith, ints)

pub way_from_steps : (step way : ℤ) → AreSteps step way → GoesTheWay step way
way_from_steps step way h = record { up = up_from_steps step way h; down = down_from_steps step way h }

remainder : (step way : ℤ) (n m : ℕ) → n ≡ unsigned_abs way → m ≡ unsigned_abs step → n % m ≡ unsigned_abs way % unsigned_abs step
remainder step way n m e f = ap (λ (v : ℕ). v % m) e ∙ ap (λ (v : ℕ). unsigned_abs way % v) f

pub steps_if : (step way : ℤ) (n m : ℕ) → n ≡ unsigned_abs way → m ≡ unsigned_abs step → (step ≡ pos 0 → ⊥) → GoesTheWay step way
    → nat_eq (n % m) 0 ≡ true → AreSteps step way
steps_if step way n m e f some goes t =
    steps_from_rest step way some goes.up goes.down (sym (remainder step way n m e f) ∙ eqb-true (n % m) 0 t)

pub steps_only : (step way : ℤ) (n m : ℕ) → n ≡ unsigned_abs way → m ≡ unsigned_abs step → (step ≡ pos 0 → ⊥) → AreSteps step way
    → nat_eq (n % m) 0 ≡ true
steps_only step way n m e f some h = eq-eqb (n % m) 0 (remainder step way n m e f ∙ rest_from_steps step way some h)
