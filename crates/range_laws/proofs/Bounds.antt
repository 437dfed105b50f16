-- A height among bounds, none of which is less.
use Rattle.std.proofs.Common.{◌≡◌, ℕ, ◌+◌, ◌-◌, ◌==◌, ◌<◌, ◌≤◌, ◌⊎◌, inl, inr, Bool, true, false, ◌||◌, List, [], ◌∷◌, ◌++◌, map}
use Rattle.std.proofs.Common.{refl, sym, ◌∙◌, arith}
use Rattle.std.specs.List.{list_any}
use Rattle.std.proofs.lemmas.Bool.{or_cases, or_left, or_right}
use Rattle.std.proofs.lemmas.Bool.Decides.{nat_tests}
use Rattle.std.proofs.lemmas.List.Folds.{list_any-append}
use Rattle.flow_laws.specs.Constant.{IsBelowEach}

-- a height is one of these, and none is below it
abbrev pub Has : ℕ → List ℕ → Type 0
Has h bs = list_any (λ b. b == h) bs ≡ true

abbrev pub NoneBelow : ℕ → List ℕ → Type 0
NoneBelow h [] = Unit {0}
NoneBelow h (b ∷ bs) = (h ≤ b) × NoneBelow h bs

pub below-left : (h : ℕ) (xs ys : List ℕ) → NoneBelow h (xs ++ ys) → NoneBelow h xs
below-left h [] ys n = tt
below-left h (x ∷ xs) ys n = (n.0, below-left h xs ys n.1)

pub below-right : (h : ℕ) (xs ys : List ℕ) → NoneBelow h (xs ++ ys) → NoneBelow h ys
below-right h [] ys n = n
below-right h (x ∷ xs) ys n = below-right h xs ys n.1

pub has-parts : (h : ℕ) (xs ys : List ℕ) → Has h (xs ++ ys) → Has h xs ⊎ Has h ys
has-parts h xs ys e = or_cases (list_any (λ b. b == h) xs) (list_any (λ b. b == h) ys) (sym (list_any-append (λ b. b == h) xs ys)
    ∙ e)

-- where it isn't one of them, it is below each
pub above-each : (h : ℕ) (bs : List ℕ) → list_any (λ b. b == h) bs ≡ false → NoneBelow h bs → IsBelowEach h bs
above-each h [] e n = tt
above-each h (b ∷ bs) e n = go (b == h) refl e (λ k. above-each h bs k n.1)
  where
    go : (x : Bool) → (b == h) ≡ x → (x || list_any (λ b. b == h) bs) ≡ false →
        (list_any (λ b. b == h) bs ≡ false → IsBelowEach h bs) → (h < b) × IsBelowEach h bs
    go true k e rest = absurd cc
    go false k e rest = ((let le = n.0 in grind (arith, nat_tests)), rest e)

pub has-one : (hi n : ℕ) (bs : List ℕ) → Has hi (n ∷ bs) → (n ≡ hi) ⊎ Has hi bs
has-one hi n bs e = later (or_cases (n == hi) (list_any (λ b. b == hi) bs) e)
  where
    later : ((n == hi) ≡ true) ⊎ Has hi bs → (n ≡ hi) ⊎ Has hi bs
    later (inl k) = inl (grind (arith, nat_tests))
    later (inr k) = inr k

pub has-rest : (hi n : ℕ) (bs : List ℕ) → hi < n → Has hi (n ∷ bs) → Has hi bs
has-rest hi n bs lt e = later (has-one hi n bs e)
  where
    later : (n ≡ hi) ⊎ Has hi bs → Has hi bs
    later (inl k) = absurd (omega arith)
    later (inr k) = k

-- ---- bounds moved by a height

pub has-moved : (x h : ℕ) (bs : List ℕ) → x ≤ h → Has h (map (λ b. x + b) bs) → Has (h - x) bs
has-moved x h [] le e = e
has-moved x h (b ∷ bs) le e = go (or_cases (x + b == h) (list_any (λ b. b == h) (map (λ b. x + b) bs)) e)
    (λ k. has-moved x h bs le k)
  where
    go : ((x + b == h) ≡ true) ⊎ Has h (map (λ b. x + b) bs) → (Has h (map (λ b. x + b) bs) → Has (h - x) bs) →
        ((b == h - x) || list_any (λ b. b == h - x) bs) ≡ true
    go (inl k) later = or_left (b == h - x) (list_any (λ b. b == h - x) bs) (let m : x + b ≡ h = grind (arith, nat_tests) in
        let n : b ≡ h - x = omega arith in grind (arith, nat_tests))
    go (inr k) later = or_right (b == h - x) (list_any (λ b. b == h - x) bs) (later k)

pub below-moved : (x h : ℕ) (bs : List ℕ) → NoneBelow h (map (λ b. x + b) bs) → NoneBelow (h - x) bs
below-moved x h [] n = tt
below-moved x h (b ∷ bs) n = let le = n.0 in (omega arith, below-moved x h bs n.1)
