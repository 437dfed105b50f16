-- The end of a range of columns is the least of their bounds, unless it is the top.
use Rattle.std.proofs.Common.{◌≡◌, ℕ, ◌==◌, ◌<◌, ◌≤◌, ◌⊎◌, inl, inr, false, List, [], ◌∷◌, min, refl, subst, sym, arith, Option}
use Rattle.std.proofs.Common.{Some, None}
use Rattle.std.specs.Prelude.{fold}
use Rattle.std.specs.List.{list_any}
use Rattle.std.proofs.lemmas.Bool.{cases_lt, or_left, or_right}
use Rattle.std.proofs.lemmas.Bool.Decides.{nat_tests}
use Rattle.flow_list.specs.Ranges.{least_bound, is_past}
use Rattle.range_laws.proofs.Bounds.{Has, NoneBelow}

least-has : (n : ℕ) (bs : List ℕ) → (fold min n bs ≡ n) ⊎ Has (fold min n bs) bs
least-has n [] = inl refl
least-has n (b ∷ bs) = go (least-has (min n b) bs) (cases_lt b n)
  where
    go : (fold min (min n b) bs ≡ min n b) ⊎ Has (fold min (min n b) bs) bs → (b < n) ⊎ (n ≤ b) →
        (fold min (min n b) bs ≡ n) ⊎ Has (fold min (min n b) bs) (b ∷ bs)
    go (inl e) (inl lt) = inr (or_left (b == fold min (min n b) bs) (list_any (λ x. x == fold min (min n b) bs) bs) (let k : b ≡
        fold min (min n b) bs = omega arith in grind (arith, nat_tests)))
    go (inl e) (inr le) = inl (omega arith)
    go (inr h) w = inr (or_right (b == fold min (min n b) bs) (list_any (λ x. x == fold min (min n b) bs) bs) h)

least-below : (n : ℕ) (bs : List ℕ) → (fold min n bs ≤ n) × NoneBelow (fold min n bs) bs
least-below n [] = (omega arith, tt)
least-below n (b ∷ bs) = let k = least-below (min n b) bs in let le = k.0 in (omega arith, (omega arith, k.1))

-- a height is one of the bounds, and none is below it
abbrev pub Least : ℕ → List ℕ → Type 0
Least h bs = NoneBelow h bs × Has h bs

least-first : (b : ℕ) (bs : List ℕ) → Least (fold min b bs) (b ∷ bs)
least-first b bs = let k = least-below b bs in ((k.0, k.1), go (least-has b bs))
  where
    go : (fold min b bs ≡ b) ⊎ Has (fold min b bs) bs → Has (fold min b bs) (b ∷ bs)
    go (inl e) = or_left (b == fold min b bs) (list_any (λ x. x == fold min b bs) bs) (let k : b ≡ fold min b bs = sym e in
        grind (arith, nat_tests))
    go (inr h) = or_right (b == fold min b bs) (list_any (λ x. x == fold min b bs) bs) h

-- below the top
least-capped : (t b : ℕ) (bs : List ℕ) → fold min (min t b) bs < t → Least (fold min (min t b) bs) (b ∷ bs)
least-capped t b bs lt = let k = least-below (min t b) bs in let le = k.0 in ((omega arith, k.1), go (least-has (min t b) bs))
  where
    go : (fold min (min t b) bs ≡ min t b) ⊎ Has (fold min (min t b) bs) bs → Has (fold min (min t b) bs) (b ∷ bs)
    go (inl e) = or_left (b == fold min (min t b) bs) (list_any (λ x. x == fold min (min t b) bs) bs) (let k : b ≡
        fold min (min t b) bs = omega arith in grind (arith, nat_tests))
    go (inr h) = or_right (b == fold min (min t b) bs) (list_any (λ x. x == fold min (min t b) bs) bs) h

pub is-least : (top : Option ℕ) (h : ℕ) (bs : List ℕ) → least_bound top bs ≡ Some h → is_past top h ≡ false → Least h bs
is-least None h [] is past = absurd cc
is-least (Some t) h [] is past = let same : t ≡ h = cc in absurd (grind (arith, nat_tests))
is-least None h (b ∷ bs) is past = let same : fold min b bs ≡ h = cc in subst (λ h. Least h (b ∷ bs)) same (least-first b bs)
is-least (Some t) h (b ∷ bs) is past =
    let same : fold min (min t b) bs ≡ h = cc in
    let below : h < t = grind (arith, nat_tests) in
    subst (λ h. Least h (b ∷ bs)) same (least-capped t b bs (omega arith))
