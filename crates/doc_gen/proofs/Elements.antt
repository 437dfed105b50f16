-- How many elements a generated document has.
use Rattle.std.proofs.Common.{◌≡◌, ◌≢◌, ◌∙◌, ◌⊎◌, inl, inr, ℕ, zero, suc, ◌+◌, ◌-◌, ◌/◌, ◌%◌, ◌==◌, true, false, ap, arith}
use Rattle.std.proofs.lemmas.Bool.Decides.{eqb_tells}
use Rattle.std.specs.Prelude.{◌&&◌, not, if◌then◌else◌}
use Rattle.doc_gen.specs.Document.{has_heading}
use Rattle.doc_gen.specs.Trial.{part_elements}

-- a part with a heading has one element more
abbrev own : ℕ → ℕ
own n = if has_heading n then 2 else 1

own_is : (n : ℕ) → (n - 1) / 16 + own n ≡ 1 + n / 16
unfolding has_heading
own_is n = go (eqb_tells n 0) (eqb_tells (n % 16) 0)
  where
    go : (((n == 0) ≡ true) × (n ≡ 0)) ⊎ (((n == 0) ≡ false) × (n ≢ 0))
        → (((n % 16 == 0) ≡ true) × (n % 16 ≡ 0)) ⊎ (((n % 16 == 0) ≡ false) × (n % 16 ≢ 0))
        → (n - 1) / 16 + (if not (n == 0) && (n % 16 == 0) then 2 else 1) ≡ 1 + n / 16
    go (inl none) whole =
        ap (λ b. (n - 1) / 16 + (if not b && (n % 16 == 0) then 2 else 1)) none.0 ∙ (let is = none.1 in omega (arith, is))
    go (inr some) (inl whole) =
        ap (λ b. (n - 1) / 16 + (if not b && (n % 16 == 0) then 2 else 1)) some.0
        ∙ ap (λ b. (n - 1) / 16 + (if b then 2 else 1)) whole.0
        ∙ (let apart = some.1 in let is = whole.1 in omega (arith, apart, is))
    go (inr some) (inr other) =
        ap (λ b. (n - 1) / 16 + (if not b && (n % 16 == 0) then 2 else 1)) some.0
        ∙ ap (λ b. (n - 1) / 16 + (if b then 2 else 1)) other.0
        ∙ (let apart = some.1 in let is = other.1 in omega (arith, apart, is))

pub elements_are : (n : ℕ) → part_elements n ≡ n + (n - 1) / 16
unfolding part_elements
elements_are zero = omega arith
elements_are (suc n) = let before = elements_are n in let own = own_is n in omega (arith, before, own)
