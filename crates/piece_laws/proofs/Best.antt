-- The chosen one of these places: none has a lesser level, and none of the same level is later.
use Rattle.std.proofs.Common.{◌≡◌, ℕ, zero, suc, ◌<◌, ◌≤◌, Bool, true, false, cond, List, [], ◌∷◌, Some, refl, ap, arith}
use Rattle.std.specs.Prelude.{nat_le, slice_get}
use Rattle.std.proofs.lemmas.Bool.Decides.{nat_tests}
use Rattle.flow_list.specs.Column.{Place, best}

pub record IsChoice (ps : List Place) (k : ℕ) (p : Place) : Type 0 where
  pub at : slice_get ps k ≡ Some p
  pub least : (n : ℕ) (q : Place) → slice_get ps n ≡ Some q → p.level ≤ q.level
  pub latest : (n : ℕ) (q : Place) → slice_get ps n ≡ Some q → k < n → p.level < q.level

same-level : (p q : Place) → Some p ≡ Some q → p.level ≡ q.level
same-level p q e = let same : p ≡ q = cc in ap (λ (r : Place). r.level) same

one-least : (p q : Place) (n : ℕ) → slice_get (p ∷ []) n ≡ Some q → p.level ≤ q.level
one-least p q zero e = let same = same-level p q e in omega arith
one-least p q (suc n) e = absurd cc

one-latest : (p q : Place) (n : ℕ) → slice_get (p ∷ []) n ≡ Some q → 0 < n → p.level < q.level
one-latest p q zero e lt = absurd (omega arith)
one-latest p q (suc n) e lt = absurd cc

-- where a place stands once there is one more after the first
abbrev moved : ℕ → ℕ
moved zero = zero
moved (suc k) = suc (suc k)

moved-at : (p q : Place) (qs : List Place) (k : ℕ) (r : Place) → slice_get (p ∷ qs) k ≡ Some r →
    slice_get (p ∷ q ∷ qs) (moved k) ≡ Some r
moved-at p q qs zero r e = e
moved-at p q qs (suc k) r e = e

moved-back : (k n : ℕ) → moved k < suc (suc n) → k < suc n
moved-back zero n lt = omega arith
moved-back (suc k) n lt = omega arith

module _ (p q : Place) (qs : List Place) (r : Place) where
  -- the later one of the two is no worse
  module _ (k : ℕ) (le : q.level ≤ p.level) (c : IsChoice (q ∷ qs) k r) where
    later-least : (n : ℕ) (u : Place) → slice_get (p ∷ q ∷ qs) n ≡ Some u → r.level ≤ u.level
    later-least zero u e = let same = same-level p u e in let low = c.least 0 q refl in omega arith
    later-least (suc n) u e = c.least n u e

    later-latest : (n : ℕ) (u : Place) → slice_get (p ∷ q ∷ qs) n ≡ Some u → suc k < n → r.level < u.level
    later-latest zero u e lt = absurd (omega arith)
    later-latest (suc n) u e lt = c.latest n u e (omega arith)

  -- the earlier one is better
  module _ (lt : p.level < q.level) (k : ℕ) (c : IsChoice (p ∷ qs) k r) where
    above : r.level < q.level
    above = let low = c.least 0 p refl in omega arith

    first-least : (n : ℕ) (u : Place) → slice_get (p ∷ q ∷ qs) n ≡ Some u → r.level ≤ u.level
    first-least zero u e = c.least 0 u e
    first-least (suc zero) u e = let same = same-level q u e in let a = above in omega arith
    first-least (suc (suc n)) u e = c.least (suc n) u e

    first-latest : (n : ℕ) (u : Place) → slice_get (p ∷ q ∷ qs) n ≡ Some u → moved k < n → r.level < u.level
    first-latest zero u e low = absurd (omega arith)
    first-latest (suc zero) u e low = let same = same-level q u e in let a = above in omega arith
    first-latest (suc (suc n)) u e low = c.latest (suc n) u e (moved-back k n low)

    first-at : slice_get (p ∷ q ∷ qs) (moved k) ≡ Some r
    first-at = moved-at p q qs k r c.at

pub best-choice : (p : Place) (ps : List Place) → (k : ℕ) × IsChoice (p ∷ ps) k (best p ps)
best-choice p [] = (0, record { at = refl; least = λ n q e. one-least p q n e; latest = λ n q e lt. one-latest p q n e lt })
best-choice p (q ∷ qs) = go (nat_le q.level p.level) refl (best-choice (cond (nat_le q.level p.level) q p) qs)
  where
    go : (b : Bool) → nat_le q.level p.level ≡ b → (k : ℕ) × IsChoice (cond b q p ∷ qs) k (best (cond b q p) qs) →
        (k : ℕ) × IsChoice (p ∷ q ∷ qs) k (best (cond b q p) qs)
    go true e (k, c) =
        let le : q.level ≤ p.level = grind (arith, nat_tests) in (
          suc k,
          record {
            at = c.at;
            least = later-least p q qs (best q qs) k le c;
            latest = later-latest p q qs (best q qs) k le c;
          },
        )
    go false e (k, c) =
        let lt : p.level < q.level = grind (arith, nat_tests) in (
          moved k,
          record {
            at = first-at p q qs (best p qs) lt k c;
            least = first-least p q qs (best p qs) lt k c;
            latest = first-latest p q qs (best p qs) lt k c;
          },
        )
