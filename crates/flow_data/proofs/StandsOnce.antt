-- Counts of numbers, which end at 255, and lists in which each number stands just once.
use Rattle.std.proofs.Common.{◌≡◌, ℕ, zero, suc, ◌+◌, ◌<◌, ◌≤◌, ◌==◌, ◌∷◌, List, Bool, true, false, ◌↔◌, All, length, take, min}
use Rattle.std.proofs.Common.{slice_index, if◌then◌else◌, ap, ◌∙◌, arith}
use Rattle.std.proofs.lemmas.List.Elements.{All-from_get_or}
use Rattle.std.proofs.lemmas.List.{take_all}
use Rattle.std.proofs.lemmas.List.Sums.{sum_by-cons}
use Rattle.std.proofs.Math.Dec.{eqb-suc-zero, eqb-zero-suc}
use Rattle.flow_data.specs.Soundness.{count_of}

one-of_count : (n m : ℕ) → n ≡ min m 255 → n ≡ 1 → m ≡ 1
one-of_count n m e one = omega arith

count-of_one : (n m : ℕ) → n ≡ min m 255 → m ≡ 1 → n ≡ 1
count-of_one n m e one = omega arith

pub each_once : (n i : ℕ) (counts numbers : List ℕ) {b : Bool} → length counts ≡ n → length numbers ≤ i
    → ((k : ℕ) → k < n → slice_index counts k ≡ min (count_of k (take i numbers)) 255)
    → (b ≡ true) ↔ All (λ c. c ≡ 1) counts → (b ≡ true) ↔ ((k : ℕ) → k < n → count_of k numbers ≡ 1)
each_once n i counts numbers size all counted says =
    let whole : take i numbers ≡ numbers = take_all i numbers all in
    let C : ℕ → List ℕ → ℕ = λ k ns. min (count_of k ns) 255 in
    let now : (k : ℕ) → k < n → slice_index counts k ≡ min (count_of k numbers) 255 = λ k lt. counted k lt ∙ ap (C k) whole in (
      λ yes k lt. one-of_count (slice_index counts k) (count_of k numbers) (now k lt) (says.0 yes k 0 (omega arith)),
      λ once. says.1 (All-from_get_or (λ c. c ≡ 1) counts 0
          (λ k lt. count-of_one (slice_index counts k) (count_of k numbers) (now k (omega arith)) (once k (omega arith)))),
    )

-- a list with one 0 more has each number once
count-first : (k : ℕ) (ns : List ℕ) → count_of k (0 ∷ ns) ≡ (if k == 0 then 1 else 0) + count_of k ns
count-first zero ns = sum_by-cons (λ m. if m == 0 then 1 else 0) 0 ns
count-first (suc k) ns = rw (eqb-suc-zero k) (sum_by-cons (λ m. if m == suc k then 1 else 0) 0 ns
    ∙ ap (λ b. (if b then 1 else 0) + count_of (suc k) ns) (eqb-zero-suc k))

one_more : (b : Bool) (n m : ℕ) → n ≡ (if b then 1 else 0) + m → n ≡ 1 → m ≡ (if b then 0 else 1)
one_more true n m e one = omega arith
one_more false n m e one = omega arith

one_less : (b : Bool) (n m : ℕ) → n ≡ (if b then 1 else 0) + m → m ≡ (if b then 0 else 1) → n ≡ 1
one_less true n m e named = omega arith
one_less false n m e named = omega arith

pub first-named : (k : ℕ) (ns : List ℕ) → count_of k (0 ∷ ns) ≡ 1 → count_of k ns ≡ (if k == 0 then 0 else 1)
first-named k ns once = one_more (k == 0) (count_of k (0 ∷ ns)) (count_of k ns) (count-first k ns) once

pub first-once : (k : ℕ) (ns : List ℕ) → count_of k ns ≡ (if k == 0 then 0 else 1) → count_of k (0 ∷ ns) ≡ 1
first-once k ns named = one_less (k == 0) (count_of k (0 ∷ ns)) (count_of k ns) (count-first k ns) named
