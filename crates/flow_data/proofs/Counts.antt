-- How often a number stands in a list.
use Rattle.std.proofs.Common.{◌≡◌, ◌≢◌, ℕ, zero, suc, ◌+◌, ◌<◌, ◌≤◌, ◌==◌, ◌||◌, Bool, true, false, cond, List, [], ◌∷◌, ◌++◌}
use Rattle.std.proofs.Common.{length, get_or, refl, sym, ap, ◌∙◌, arith, zero-add, ◌-◌, min, subst}
use Rattle.std.specs.Prelude.{All, AllPairs, reverse}
use Rattle.std.proofs.lemmas.Bool.Decides.{nat_tests}
use Rattle.std.proofs.lemmas.List.Sums.{sum_by-cons, sum_by-append}
use Rattle.std.proofs.lemmas.List.Kept.{AllPairs-cons}
use Rattle.std.proofs.lemmas.List.Sorted.{IsPermutation-reverse, sum_by-IsPermutation}
use Rattle.std.proofs.lemmas.Bool.{eqb-true, eqb-false}
use Rattle.flow_data.specs.Flows.{is_among}
use Rattle.flow_data.specs.Soundness.{count_of}

pub count-cons : (n x : ℕ) (xs : List ℕ) → count_of n (x ∷ xs) ≡ cond (x == n) 1 0 + count_of n xs
count-cons n x xs = sum_by-cons (λ m. cond (m == n) 1 0) x xs

pub count-append : (n : ℕ) (xs ys : List ℕ) → count_of n (xs ++ ys) ≡ count_of n xs + count_of n ys
count-append n xs ys = sum_by-append (λ m. cond (m == n) 1 0) xs ys

pub count-reverse : (n : ℕ) (xs : List ℕ) → count_of n (reverse xs) ≡ count_of n xs
count-reverse n xs = sum_by-IsPermutation (λ m. cond (m == n) 1 0) xs (reverse xs) (IsPermutation-reverse xs)

pub count-self : (n : ℕ) (xs : List ℕ) → count_of n (n ∷ xs) ≡ suc (count_of n xs)
count-self n xs = count-cons n n xs ∙ grind (arith, nat_tests)

pub count-yes : (n x : ℕ) (xs : List ℕ) → (x == n) ≡ true → count_of n (x ∷ xs) ≡ suc (count_of n xs)
count-yes n x xs e = count-cons n x xs ∙ rw e (omega arith)

pub count-no : (n x : ℕ) (xs : List ℕ) → (x == n) ≡ false → count_of n (x ∷ xs) ≡ count_of n xs
count-no n x xs e = count-cons n x xs ∙ rw e (zero-add _)

-- a number that is among these is counted, and one that isn't is not
pub count-among : (n : ℕ) (xs : List ℕ) → count_of n xs ≡ 0 → is_among xs n ≡ false
count-among n [] z = refl
count-among n (x ∷ xs) z = go (x == n) refl (λ e. count-among n xs e)
  where
    go : (b : Bool) → (x == n) ≡ b → (count_of n xs ≡ 0 → is_among xs n ≡ false) → ((x == n) || is_among xs n) ≡ false
    go true e again = absurd (let c = count-yes n x xs e in omega arith)
    go false e again = rw e (again (let c = count-no n x xs e in omega arith))

pub among-count : (n : ℕ) (xs : List ℕ) → is_among xs n ≡ false → count_of n xs ≡ 0
among-count n [] z = refl
among-count n (x ∷ xs) z = go (x == n) refl (λ e. among-count n xs e) z
  where
    go : (b : Bool) → (x == n) ≡ b → (is_among xs n ≡ false → count_of n xs ≡ 0) → (b || is_among xs n) ≡ false
        → count_of n (x ∷ xs) ≡ 0
    go true e again z = cc
    go false e again z = count-no n x xs e ∙ again z

pub among-some : (n : ℕ) (xs : List ℕ) → is_among xs n ≡ true → 0 < count_of n xs
among-some n xs h = go (count_of n xs) refl
  where
    go : (c : ℕ) → count_of n xs ≡ c → 0 < c
    go zero e = let z = count-among n xs e in cc
    go (suc c) e = omega arith

-- ---- lists in which no number stands twice

pub none-count : (n : ℕ) (xs : List ℕ) → ((j : ℕ) → j < length xs → get_or xs j n ≢ n) → count_of n xs ≡ 0
none-count n [] h = refl
none-count n (x ∷ xs) h = go (x == n) refl (none-count n xs (λ j lt. h (suc j) (omega arith)))
  where
    go : (b : Bool) → (x == n) ≡ b → count_of n xs ≡ 0 → count_of n (x ∷ xs) ≡ 0
    go true e ih = absurd (h 0 (omega arith) (grind (arith, nat_tests)))
    go false e ih = count-no n x xs e ∙ ih

pub distinct-count : (n : ℕ) (xs : List ℕ) → AllPairs (λ a b. a ≢ b) xs → count_of n xs ≤ 1
distinct-count n [] h = omega arith
distinct-count n (x ∷ xs) h =
    go (x == n) refl (distinct-count n xs (λ i j d lt in_range. h (suc i) (suc j) d (omega arith) (omega arith)))
  where
    go : (b : Bool) → (x == n) ≡ b → count_of n xs ≤ 1 → count_of n (x ∷ xs) ≤ 1
    go true e ih =
        let same : x ≡ n = grind (arith, nat_tests) in
        let z : count_of n xs ≡ 0 = none-count n xs (λ j lt is. h 0 (suc j) n (omega arith) (omega arith) (same ∙ sym is)) in
        let c = count-yes n x xs e in
        omega arith
    go false e ih = let c = count-no n x xs e in omega arith

-- numbers that stand in a list once at most differ
pub none-of : (n : ℕ) (xs : List ℕ) → count_of n xs ≡ 0 → All (λ m. n ≢ m) xs
none-of n [] none = λ k e lt. absurd (omega arith)
none-of n (m ∷ xs) none = both (differs (m == n) refl) (none-of n xs (omega (arith, count-cons n m xs)))
  where
    differs : (b : Bool) → (m == n) ≡ b → n ≡ m → ⊥
    differs true e same = let one : count_of n (m ∷ xs) ≡ 1 + count_of n xs = count-cons n m xs
        ∙ ap (λ b. cond b 1 0 + count_of n xs) e in omega arith
    differs false e same = grind (arith, nat_tests)

    both : n ≢ m → All (λ m. n ≢ m) xs → All (λ m. n ≢ m) (m ∷ xs)
    both first rest zero e lt = first
    both first rest (suc k) e lt = rest k e (omega arith)

pub distinct-once : (high : ℕ) (xs : List ℕ) → All (λ n. n < high) xs → ((n : ℕ) → n < high → count_of n xs ≤ 1)
    → AllPairs (λ a b. a ≢ b) xs
distinct-once high [] known few = λ i j e lt in_list. absurd (omega arith)
distinct-once high (x ∷ xs) known few =
    let x_known : x < high = known 0 x (omega arith) in
    let one = count-self x xs in
    let at_most = few x x_known in
    AllPairs-cons (λ a b. a ≢ b) x xs (none-of x xs (omega arith))
    (distinct-once high xs (λ k e lt. known (suc k) e (omega arith)) (λ n lt. let a = few n lt in let b = count-cons n x xs
    in omega arith))

-- ---- numbers one after another

-- 1 where j is one of the n numbers from k on, else 0
abbrev pub times_in : ℕ → ℕ → ℕ → ℕ
times_in j k n = min 1 (suc j - k) - min 1 (suc j - (k + n))

pub times-cons : (j k : ℕ) (ns : List ℕ) → count_of j (k ∷ ns) ≡ times_in j k 1 + count_of j ns
times-cons j k ns = sum_by-cons (λ m. cond (m == j) 1 0) k ns ∙ ap (λ (n : ℕ). n + count_of j ns) (go (k == j) refl)
  where
    go : (b : Bool) → (k == j) ≡ b → cond b 1 0 ≡ times_in j k 1
    go true e = let same : k ≡ j = eqb-true k j e in omega arith
    go false e = let other : k ≡ j → ⊥ = eqb-false k j e in omega arith

-- 1 where j is k or more, else 0
abbrev pub reached : ℕ → ℕ → ℕ
reached j k = min 1 (suc j - k)

pub falls : (j k n : ℕ) → reached j (k + n) ≤ reached j k
falls j k n = omega arith

pub telescope : (a b c d : ℕ) → b ≤ a → c ≤ b → d ≤ c → (a - b) + (b - c) + (c - d) ≡ a - d
telescope a b c d ab bc cd = omega arith

pub in_parts : (j k a b : ℕ) → times_in j k 1 + times_in j (suc k) a + times_in j (suc k + a) b ≡ times_in j k (suc (a + b))
in_parts j k a b =
    let one : k + 1 ≡ suc k = omega arith in
    let last : suc k + a + b ≡ k + suc (a + b) = omega arith in
    rw (one, ← last)
    (telescope (reached j k) (reached j (suc k)) (reached j (suc k + a)) (reached j (suc k + a + b))
    (subst (λ (m : ℕ). reached j m ≤ reached j k) one (falls j k 1)) (falls j (suc k) a) (falls j (suc k + a) b))

pub adding : (x first both a b in_a in_b whole : ℕ) → x ≡ first + both → both ≡ a + b → a ≡ in_a → b ≡ in_b
    → first + in_a + in_b ≡ whole → x ≡ whole
adding x first both a b in_a in_b whole e f g h parts = omega arith
