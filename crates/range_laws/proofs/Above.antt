-- Sizes of rows that are above one.
use Rattle.std.proofs.Common.{◌≡◌, ℕ, ◌+◌, ◌==◌, ◌<◌, ◌≤◌, false, List, [], ◌∷◌, ◌++◌, refl, arith}
use Rattle.std.proofs.lemmas.Bool.{and_left, or_from}
use Rattle.std.proofs.lemmas.Bool.Decides.{nat_tests}
use Rattle.flow_list.specs.Certificate.{Use, same_token, same_use, stands_in}
use Rattle.flow_list.proofs.PlaceBounds.{Each-append}
use Rattle.column_laws.proofs.Uses.{UsesAre}

-- row r is above one, and of the data
abbrev pub Later : ℕ → ℕ → ℕ → Type 0
Later b n r = (b ≤ r) × (r < n)

-- so are these
abbrev pub Above : ℕ → ℕ → List Use → Type 0
Above b n us = UsesAre (Later b n) us

-- a size of a lesser row stands not among these
pub not-above : (u : Use) (n : ℕ) (vs : List Use) → Above (u.0 + 1) n vs → stands_in vs u ≡ false
not-above u n [] a = refl
not-above u n (v ∷ vs) a =
    let le = a.0.0 in
    let k : (u.0 == v.0) ≡ false = grind (arith, nat_tests) in
    or_from (same_use u v) (stands_in vs u) (and_left (u.0 == v.0) (same_token u.1 v.1) k) (not-above u n vs a.1)

pub above-less : (b c n : ℕ) (us : List Use) → b ≤ c → Above c n us → Above b n us
above-less b c n [] le a = tt
above-less b c n (u ∷ us) le a = let k = a.0.0 in ((omega arith, a.0.1), above-less b c n us le a.1)

pub above-append : (b n : ℕ) (xs ys : List Use) → Above b n xs → Above b n ys → Above b n (xs ++ ys)
above-append b n xs ys a c = Each-append (λ (u : Use). Later b n u.0) xs ys a c
